-- A text that is written piece by piece.
use Rattle.std.proofs.Common.{◌≡◌, ℕ, ◌+◌, ◌<◌, ◌≤◌, List, [], ◌∷◌, ◌++◌, length, take, drop}
use Rattle.std.proofs.Common.{get_or, Option, sym, ap, ◌∙◌, arith, append_assoc, append-nil}
use Rattle.std.proofs.Common.{length-append, take-suc, add-one, take-append-drop, inl, inr, ◌⊎◌}
use Rattle.std.specs.List.{flat_map}
use Rattle.std.proofs.lemmas.Grind.{flat_map-append}
use Rattle.std.proofs.Math.Seq.{take-append-add}
use Rattle.std.proofs.lemmas.List.{take-append-le}
use Rattle.std.specs.Io.KnownBytes.{Appends}
use Rattle.std.proofs.KnownBytes.{Appends-trans}
use Rattle.std.specs.Prelude.{codes}
use Rattle.reg_base.specs.Numbers.{number_text}
use Rattle.reg_io.specs.Counts.{AppendsPrefix, Rose}
use Rattle.cfg_model.specs.FaultTexts.{count_text}
use Rattle.rule_lang.specs.FaultTexts.{words}
use Rattle.csv_groups.specs.Faults.{row_why_name, row_why_number}
use Rattle.csv_groups.specs.declared.fault.RowWhy.{RowWhy}
use Rattle.desk_run.specs.FaultLines.{column_told, program_line, row_line, row_words}
use Rattle.desk_run.specs.Ends.{WritesLine}

-- the pieces up to one more
pub flat_map-take_more : {X : Type 0} (f : X → List ℕ) (xs : List X) (i : ℕ) (d : X)
    → i < length xs → flat_map f (take (i + 1) xs) ≡ flat_map f (take i xs) ++ f (get_or xs i d)
flat_map-take_more f xs i d below =
    ap (λ l. flat_map f l) (rw add-one (take-suc xs i d below))
    ∙ flat_map-append f (take i xs) (get_or xs i d ∷ [])
    ∙ ap (λ l. flat_map f (take i xs) ++ l) (append-nil (f (get_or xs i d)))

-- all pieces: those up to one, that one, and the others
pub flat_map-parts : {X : Type 0} (f : X → List ℕ) (xs : List X) (i : ℕ) (d : X)
    → i < length xs
    → flat_map f xs
    ≡ (flat_map f (take i xs) ++ f (get_or xs i d)) ++ flat_map f (drop (i + 1) xs)
flat_map-parts f xs i d below =
    ap (λ l. flat_map f l) (sym (take-append-drop (i + 1) xs))
    ∙ flat_map-append f (take (i + 1) xs) (drop (i + 1) xs)
    ∙ ap (λ l. l ++ flat_map f (drop (i + 1) xs)) (flat_map-take_more f xs i d below)

-- a front of a piece behind the pieces before it is a front of all
pub AppendsPrefix-behind : (a b c : Option (List ℕ)) (front piece rest all : List ℕ)
    → all ≡ (front ++ piece) ++ rest → Appends a b front → AppendsPrefix b c piece
    → AppendsPrefix a c all
AppendsPrefix-behind a b c front piece rest all e before part =
    let short : part.0 ≤ length piece = omega (arith, part.1) in
    let same : take (length front + part.0) all ≡ front ++ take part.0 piece =
    ap (λ l. take (length front + part.0) l) (e ∙ append_assoc front piece rest)
    ∙ take-append-add front (piece ++ rest) part.0
    ∙ ap (λ l. front ++ l) (take-append-le part.0 piece rest short) in (
      length front + part.0,
      omega (
        arith,
        part.1,
        ap length e,
        length-append (front ++ piece) rest,
        length-append front piece,
      ),
      rw same (Appends-trans a b c _ _ before part.2),
    )

-- a front of the first piece is a front of all
pub AppendsPrefix-first : (a b : Option (List ℕ)) (piece rest : List ℕ) → AppendsPrefix a b piece
    → AppendsPrefix a b (piece ++ rest)
AppendsPrefix-first a b piece rest part =
    let short : part.0 ≤ length piece = omega (arith, part.1) in (
      part.0,
      omega (arith, part.1, length-append piece rest),
      rw (take-append-le part.0 piece rest short) part.2,
    )

-- a line behind what was written
pub WritesLine-behind : (a b c : Option (List ℕ)) (front line : List ℕ) (w w_mid w_now : ℕ)
    → Appends a b front → w ≤ w_mid → WritesLine line b c w_mid w_now
    → WritesLine (front ++ line) a c w w_now
WritesLine-behind a b c front line w w_mid w_now before later writes = record { out = at writes.out }
  where
    at : Appends b c line ⊎ (AppendsPrefix b c line × Rose w_mid w_now)
        → Appends a c (front ++ line) ⊎ (AppendsPrefix a c (front ++ line) × Rose w w_now)
    at (inl whole) = inl (Appends-trans a b c front line before whole)
    at (inr part) = inr (
      AppendsPrefix-behind a b c front line [] (front ++ line) (sym (append-nil (front ++ line)))
          before part.0,
      omega (arith, later, part.1),
    )

-- a line that is written is the same by another spelling of it
pub WritesLine-is : {line other : List ℕ} {before now : Option (List ℕ)} {faults faults_now : ℕ}
    → line ≡ other → WritesLine line before now faults faults_now
    → WritesLine other before now faults faults_now
WritesLine-is e writes = rw e at writes

-- the pieces of the line of a limit that is passed
pub count_line : (what digits : List ℕ) (number : ℕ) → digits ≡ number_text number
    → codes "regdesk: configuration: 5 Count "
    ++ (what ++ (codes " " ++ (digits ++ (codes "\n" ++ []))))
    ≡ program_line (codes "configuration: ") (count_text what number)
count_line what digits number e =
    ap (λ l. codes "regdesk: configuration: 5 Count " ++ l)
    (ap (λ d. what ++ (codes " " ++ (d ++ (codes "\n" ++ [])))) e
    ∙ sym (append_assoc what (codes " " ++ number_text number) (10 ∷ [])))

-- the pieces of the line of a rule that is wrong
pub rule_line : (kind place_digits reason_digits : List ℕ) (place reason : ℕ)
    → place_digits ≡ number_text place → reason_digits ≡ number_text reason
    → codes "regdesk: rules: " ++ (kind ++ (codes " " ++ (place_digits ++ (codes " "
    ++ (reason_digits ++ (codes "\n" ++ []))))))
    ≡ program_line (codes "rules: ") (words kind place reason)
rule_line kind place_digits reason_digits place reason p r =
    ap (λ l. codes "regdesk: rules: " ++ l)
    (ap (λ d. kind ++ (codes " " ++ (d ++ (codes " " ++ (reason_digits ++ (codes "\n" ++ [])))))) p
    ∙ ap (λ d. kind ++ (codes " "
    ++ (number_text place ++ (codes " " ++ (d ++ (codes "\n" ++ [])))))) r
    ∙ sym (append_assoc kind _ (10 ∷ [])
    ∙ ap (λ l. kind ++ 32 ∷ l)
    (append_assoc (number_text place) (32 ∷ number_text reason) (10 ∷ []))))

-- the pieces of the line of a journal whose fault has a number
pub journal_line : (front digits : List ℕ) (number : ℕ) → digits ≡ number_text number
    → codes "regdesk: journal: " ++ (front ++ (digits ++ (codes "\n" ++ [])))
    ≡ program_line (codes "journal: ") (front ++ number_text number)
journal_line front digits number e =
    ap (λ l. codes "regdesk: journal: " ++ l)
    (ap (λ d. front ++ (d ++ (codes "\n" ++ []))) e
    ∙ sym (append_assoc front (number_text number) (10 ∷ [])))

-- the words of the line of a row
pub row_written : (row : ℕ) (why : RowWhy) (digits number name : List ℕ)
    (column : Option (List ℕ)) (n : ℕ) (before now : Option (List ℕ)) (faults faults_now : ℕ)
    → digits ≡ number_text row → number ≡ number_text n → n ≡ row_why_number why
    → name ≡ row_why_name why → column ≡ column_told why
    → WritesLine (row_words digits number name column) before now faults faults_now
    → WritesLine (row_line row why) before now faults faults_now
row_written row why digits number name column n before now faults faults_now a b m d e writes =
    WritesLine-is {line = row_words digits number name column} {other = row_line row why}
    (λ i. row_words (a i) ((b ∙ ap number_text m) i) (d i) (e i)) writes
