-- Appends one after another.
use Rattle.std.proofs.Common.{◌≡◌, ℕ, ◌+◌, ◌<◌, ◌≤◌, List, [], ◌∷◌, ◌++◌, length, take, get_or, sym}
use Rattle.std.proofs.Common.{◌∙◌, ap, subst}
use Rattle.std.proofs.lemmas.List.{map-append, take_all, take_more}
use Rattle.reg_io.specs.Disks.{DiskState}
use Rattle.post_journal.specs.Journals.{Grows}
use Rattle.post_journal.specs.Openings.{payloads}
use Rattle.post_journal.specs.declared.journal.Payload.{Payload}
use Rattle.post_journal.proofs.ForAbove.{grows_more}

next_payloads : (entries : List Payload) (entry : Payload) (i : ℕ) → i < length entries
    → entry ≡ get_or entries i entry
    → payloads (take (i + 1) entries) ≡ payloads (take i entries) ++ entry.bytes ∷ []
next_payloads entries entry i within is =
    ap payloads (take_more entries i entry within
    ∙ ap (λ (x : Payload). take i entries ++ x ∷ []) (sym is))
    ∙ map-append (λ (p : Payload). p.bytes) (take i entries) (entry ∷ [])

pub grows_next : (first mid now : DiskState) (entries : List Payload) (entry : Payload) (i : ℕ)
    → i < length entries → entry ≡ get_or entries i entry
    → Grows first mid (payloads (take i entries)) [] → Grows mid now (entry.bytes ∷ []) []
    → Grows first now (payloads (take (i + 1) entries)) []
grows_next first mid now entries entry i within is so_far next =
    subst (λ (l : List (List ℕ)). Grows first now l [])
    (sym (next_payloads entries entry i within is))
    (grows_more first mid now (payloads (take i entries)) (entry.bytes ∷ []) [] so_far next)

pub grows_all : (first now : DiskState) (entries : List Payload) (i : ℕ) → length entries ≤ i
    → Grows first now (payloads (take i entries)) [] → Grows first now (payloads entries) []
grows_all first now entries i all so_far =
    subst (λ (l : List Payload). Grows first now (payloads l) []) (take_all i entries all) so_far
