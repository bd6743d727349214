-- What is left of a walk over columns and cells, and texts that are joined.
use Rattle.std.proofs.Common.{◌≡◌, ℕ, List, [], ◌∷◌, ◌++◌, ◌⊎◌, refl, sym, ap, ◌∙◌, append-nil}
use Rattle.std.proofs.Common.{⊎_elim}
use Rattle.std.specs.List.{flat_map, join_with_byte}
use Rattle.text_reports.specs.declared.table.Column.{Column}
use Rattle.text_reports.specs.Tables.{fit_line, placed_texts}

-- the first text, and each other one behind the separator
pub join_with_byte-cons : (c : ℕ) (x : List ℕ) (xs : List (List ℕ))
    → join_with_byte c (x ∷ xs) ≡ x ++ flat_map (λ other. c ∷ other) xs
join_with_byte-cons c x [] = sym (append-nil x)
join_with_byte-cons c x (y ∷ ys) = ap (λ text. x ++ (c ∷ text)) (join_with_byte-cons c y ys)

-- columns without cells have no texts in them
pub placed_texts-nil : (columns : List Column) → placed_texts columns [] ≡ []
placed_texts-nil [] = refl
placed_texts-nil (column ∷ columns) = refl

-- columns without cells are none
pub fit_line-nil : (columns : List Column) → fit_line columns [] ≡ []
fit_line-nil [] = refl
fit_line-nil (column ∷ columns) = refl

-- where columns or cells are spent, the walk over them has made all that it makes
pub walk-spent : {X : Type 0} (walk : List Column → List (List ℕ) → List X)
    → ((cells : List (List ℕ)) → walk [] cells ≡ [])
    → ((columns : List Column) → walk columns [] ≡ [])
    → (front : List X) (columns : List Column) (cells : List (List ℕ)) (all : List X)
    → (columns ≡ []) ⊎ (cells ≡ []) → front ++ walk columns cells ≡ all → front ≡ all
walk-spent walk no_columns no_cells front columns cells all ended so_far =
    let none : walk columns cells ≡ [] =
    ⊎_elim (λ e. ap (λ x. walk x cells) e ∙ no_columns cells)
    (λ e. ap (walk columns) e ∙ no_cells columns) ended in
    sym (append-nil front) ∙ sym (ap (λ rest. front ++ rest) none) ∙ so_far
