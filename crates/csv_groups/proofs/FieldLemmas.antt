-- Fields put among others in order.
use Rattle.std.proofs.Common.{◌≡◌, ℕ, ◌+◌, ◌<◌, List, [], ◌∷◌, ◌++◌, take, drop, length}
use Rattle.std.proofs.Common.{get_or, refl, ap, sym, subst, ◌∙◌, append_assoc}
use Rattle.std.specs.Cmp.Lexicographic.{slice_cmp, nat_list_cmp_total}
use Rattle.std.specs.List.{AllByRecursion}
use Rattle.std.specs.List.Sorted.{IsStrictlySortedBy}
use Rattle.std.specs.Ordering.{match_ordering, nat_cmp}
use Rattle.std.specs.declared.cmp.Ordering.{Ordering}
use Rattle.std.specs.declared.cmp.Ordering.TheVariants.{Less, Equal, Greater}
use Rattle.std.proofs.lemmas.List.{drop_more, take_more}
use Rattle.std.proofs.lemmas.Map.Lookups.{exact_bytes}
use Rattle.reg_base.specs.Records.{put_once}
use Rattle.reg_base.proofs.ForAbove.{put_once-rising}
use Rattle.desk_words.specs.declared.request.FieldText.{FieldText}
use Rattle.desk_words.specs.WellFormed.{AreFields, IsFieldText, field_names}
use Rattle.csv_groups.specs.Groups.{field_cmp}

abbrev by_bytes : List ℕ → List ℕ → Ordering
by_bytes = slice_cmp nat_cmp

-- the names of fields with one put among them
names-put : (x : FieldText) (ys : List FieldText)
    → field_names (put_once field_cmp x ys) ≡ put_once by_bytes x.name (field_names ys)
names-put x [] = refl
names-put x (y ∷ ys) = at (by_bytes x.name y.name) (names-put x ys)
  where
    at : (o : Ordering) → field_names (put_once field_cmp x ys)
        ≡ put_once by_bytes x.name (field_names ys)
        → field_names (match_ordering o (x ∷ y ∷ ys) (y ∷ ys) (y ∷ put_once field_cmp x ys))
        ≡ match_ordering o (x.name ∷ y.name ∷ field_names ys) (y.name ∷ field_names ys)
        (y.name ∷ put_once by_bytes x.name (field_names ys))
    at Less ih = refl
    at Equal ih = refl
    at Greater ih = ap (λ names. y.name ∷ names) ih

-- what holds of a field and of others holds of all together
all-put : (P : FieldText → Type 0) (x : FieldText) (ys : List FieldText) → P x
    → AllByRecursion P ys → AllByRecursion P (put_once field_cmp x ys)
all-put P x [] p all = (p, tt)
all-put P x (y ∷ ys) p all = at (by_bytes x.name y.name) (all-put P x ys p all.1)
  where
    at : (o : Ordering) → AllByRecursion P (put_once field_cmp x ys)
        → AllByRecursion P (match_ordering o (x ∷ y ∷ ys) (y ∷ ys) (y ∷ put_once field_cmp x ys))
    at Less ih = (p, all)
    at Equal ih = all
    at Greater ih = (all.0, ih)

-- well formed fields with one put among them are well formed
pub fields-put : (x : FieldText) (ys : List FieldText) → IsFieldText x → AreFields ys
    → AreFields (put_once field_cmp x ys)
fields-put x ys p are = (
  all-put IsFieldText x ys p are.0,
  subst (IsStrictlySortedBy by_bytes) (sym (names-put x ys))
      (put_once-rising nat_list_cmp_total exact_bytes x.name (field_names ys) are.1),
)

module _ (x : FieldText) (fields : List FieldText) (i : ℕ) (y : FieldText)
    (below : i < length fields) (is : y ≡ get_or fields i y) where
  at-place : drop i fields ≡ y ∷ drop (i + 1) fields
  at-place = drop_more fields i y below ∙ ap (λ z. z ∷ drop (i + 1) fields) (sym is)

  -- before a greater name
  pub put-before : field_cmp x y ≡ Less
      → put_once field_cmp x (drop i fields) ≡ x ∷ drop i fields
  put-before less = rw (at-place, less) refl

  -- the name is there
  pub put-there : field_cmp x y ≡ Equal → put_once field_cmp x (drop i fields) ≡ drop i fields
  put-there same = rw (at-place, same) refl

  -- behind a lesser name
  pub put-behind : field_cmp x y ≡ Greater → take i fields ++ put_once field_cmp x (drop i fields)
      ≡ take (i + 1) fields ++ put_once field_cmp x (drop (i + 1) fields)
  put-behind more =
      ap (λ z. take i fields ++ z) (behind more)
      ∙ sym (append_assoc (take i fields) (y ∷ []) (put_once field_cmp x (drop (i + 1) fields)))
      ∙ ap (λ z. z ++ put_once field_cmp x (drop (i + 1) fields)) (sym front)
    where
      behind : field_cmp x y ≡ Greater
          → put_once field_cmp x (drop i fields) ≡ y ∷ put_once field_cmp x (drop (i + 1) fields)
      behind more = rw (at-place, more) refl

      front : take (i + 1) fields ≡ take i fields ++ y ∷ []
      front = take_more fields i y below ∙ ap (λ z. take i fields ++ z ∷ []) (sym is)

-- no fields are well formed
pub no-fields : AreFields []
unfolding IsStrictlySortedBy
no-fields = (tt, tt)
