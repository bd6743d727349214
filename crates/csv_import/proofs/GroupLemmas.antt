-- Groups one after another: what one more behind them comes to.
use Rattle.std.proofs.Common.{◌≡◌, List, [], ◌∷◌, ◌++◌, length, append_assoc, append-nil}
use Rattle.std.proofs.Common.{ap, ◌∙◌, sym, refl, arith}
use Rattle.desk_model.specs.State.{Desk}
use Rattle.csv_groups.specs.declared.group.Group.{Group}
use Rattle.csv_import.specs.Imports.{posting_of, desk_behind, group_line, group_lines}
use Rattle.csv_import.specs.Imports.{group_entries, outcomes}

-- the desk behind one more
pub desk_behind-more : (desk : Desk) (groups : List Group) (group : Group)
    → desk_behind desk (groups ++ group ∷ [])
    ≡ (posting_of (desk_behind desk groups) group).desk
desk_behind-more desk [] group = refl
desk_behind-more desk (g ∷ groups) group = desk_behind-more (posting_of desk g).desk groups group

-- the lines with that of one more
pub group_lines-more : (desk : Desk) (groups : List Group) (group : Group)
    → group_lines desk (groups ++ group ∷ [])
    ≡ group_lines desk groups ++ group_line (desk_behind desk groups) group
group_lines-more desk [] group = append-nil (group_line desk group)
group_lines-more desk (g ∷ groups) group =
    ap (λ l. group_line desk g ++ l) (group_lines-more (posting_of desk g).desk groups group)
    ∙ sym (append_assoc (group_line desk g) (group_lines (posting_of desk g).desk groups)
    (group_line (desk_behind (posting_of desk g).desk groups) group))

-- the entries with that of one more
pub group_entries-more : (desk : Desk) (groups : List Group) (group : Group)
    → group_entries desk (groups ++ group ∷ [])
    ≡ group_entries desk groups ++ (posting_of (desk_behind desk groups) group).entries
group_entries-more desk [] group = append-nil (posting_of desk group).entries
group_entries-more desk (g ∷ groups) group =
    ap (λ l. (posting_of desk g).entries ++ l)
    (group_entries-more (posting_of desk g).desk groups group)
    ∙ sym (append_assoc (posting_of desk g).entries
    (group_entries (posting_of desk g).desk groups)
    (posting_of (desk_behind (posting_of desk g).desk groups) group).entries)

-- the outcomes with that of one more
pub outcomes-more : (desk : Desk) (groups : List Group) (group : Group)
    → outcomes desk (groups ++ group ∷ [])
    ≡ outcomes desk groups ++ (posting_of (desk_behind desk groups) group).outcome ∷ []
outcomes-more desk [] group = refl
outcomes-more desk (g ∷ groups) group =
    ap (λ l. (posting_of desk g).outcome ∷ l) (outcomes-more (posting_of desk g).desk groups group)

-- there are as many outcomes as groups
pub length-outcomes : (desk : Desk) (groups : List Group)
    → length (outcomes desk groups) ≡ length groups
length-outcomes desk [] = refl
length-outcomes desk (group ∷ groups) =
    omega (arith, length-outcomes (posting_of desk group).desk groups)
