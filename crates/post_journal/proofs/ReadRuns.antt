-- A run of entries, read one by one.
use Rattle.std.proofs.Common.{◌≡◌, ◌⊎◌, min, inl, inr, ℕ, zero, suc, ◌+◌, ◌-◌, ◌<◌, ◌≤◌, Bool, true}
use Rattle.std.proofs.Common.{false, List, [], ◌∷◌, ◌++◌, length, take, drop, Option, None, Some}
use Rattle.std.proofs.Common.{IfSome, Result, Ok, Err, IsErr, IsErrAnd, refl, sym, ◌∙◌, ap, subst}
use Rattle.std.proofs.Common.{arith, length-drop}
use Rattle.std.proofs.lemmas.Bool.{false≢true}
use Rattle.std.proofs.lemmas.List.{append-nil, drop-drop, map-append, take_at, take_min}
use Rattle.post_journal.specs.Images.{Image, bad_entry, journal_length, entry_then, gate_then}
use Rattle.post_journal.specs.Images.{holds, is_open, is_whole, payload_of, run_from, told_length}
use Rattle.post_journal.specs.Images.{with_entry}
use Rattle.post_journal.specs.Openings.{EndsRun, FindsEntry, IsEntryAt, RunIsLong, beginning_of}
use Rattle.post_journal.specs.Openings.{payloads}
use Rattle.post_journal.specs.declared.beginning.Beginning.{Beginning}
use Rattle.post_journal.specs.declared.fault.OpenFault.{OpenFault}
use Rattle.post_journal.specs.declared.fault.OpenFault.TheVariants.{NotAJournal, BadEntry}
use Rattle.post_journal.specs.declared.fault.OpenFault.TheVariants.{DiskFault, Memory}
use Rattle.post_journal.specs.declared.journal.Payload.{Payload}
use Rattle.post_journal.proofs.Runs.{run_closed, run_same, run_suc, with_entries}
use Rattle.post_journal.proofs.Runs.{with_entries-holds}

-- the entries so far, and the run that is left
abbrev pub IsRead : List Payload → ℕ → List ℕ → Type 0
IsRead entries place bytes = run_from (length bytes) 22 (drop 22 bytes)
    ≡ with_entries (payloads entries) (run_from (length bytes) place (drop place bytes))

some_open : (bytes : List ℕ) → is_open bytes ≡ true → 0 < length bytes
some_open [] opened = absurd (false≢true opened)
some_open (b ∷ bytes) opened = omega arith

-- the run from an open gate on, by whether its entry is whole
open_run : (n place : ℕ) (bytes : List ℕ) (good : Bool) → length bytes ≤ n → is_open bytes ≡ true
    → is_whole (told_length bytes) place bytes ≡ good
    → run_from n place bytes ≡ entry_then good place (payload_of (told_length bytes) bytes)
    (run_from n (place + (5 + told_length bytes)) (drop (5 + told_length bytes) bytes))
open_run zero place bytes good enough opened is =
    let some = some_open bytes opened in absurd (omega arith)
open_run (suc n) place bytes good enough opened is =
    let count = told_length bytes in
    let rest = drop (5 + count) bytes in
    let shorter = length-drop (5 + count) bytes in
    run_suc n place bytes
    ∙ ap (λ (b : Bool). gate_then b place (entry_then (is_whole count place bytes) place
    (payload_of count bytes) (run_from n (place + (5 + count)) rest))) opened
    ∙ ap (λ (b : Bool). entry_then b place (payload_of count bytes)
    (run_from n (place + (5 + count)) rest)) is
    ∙ ap (λ (r : Image). entry_then good place (payload_of count bytes) r)
    (run_same n (suc n) (place + (5 + count)) rest (omega arith) (omega arith))

with_entries-push : (es : List (List ℕ)) (e : List ℕ) (rest : Image)
    → with_entries (es ++ e ∷ []) rest ≡ with_entries es (with_entry e rest)
with_entries-push [] e rest = refl
with_entries-push (x ∷ es) e rest = ap (with_entry x) (with_entries-push es e rest)

with_entries-bad : (es : List (List ℕ)) (place : ℕ)
    → with_entries es (bad_entry place) ≡ bad_entry place
with_entries-bad [] place = refl
with_entries-bad (e ∷ es) place = ap (with_entry e) (with_entries-bad es place)

more : (entries : List Payload) (payload : Payload) (place count : ℕ) (bytes : List ℕ)
    → IsRead entries place bytes → FindsEntry (drop place bytes) place (Ok (Some count))
    → payload.bytes ≡ take count (drop (place + 5) bytes)
    → IsRead (entries ++ payload ∷ []) (place + (5 + count)) bytes
more entries payload place count bytes read found is =
    let here = drop place bytes in
    let shorter = length-drop place bytes in
    let run = λ (p : ℕ) (l : List ℕ). run_from (length bytes) p l in
    read
    ∙ ap (with_entries (payloads entries))
    (open_run (length bytes) place here true (omega arith) found.0 (rw found.1 found.2)
    ∙ ap (λ (c : ℕ). with_entry (payload_of c here) (run (place + (5 + c)) (drop (5 + c) here)))
    found.1
    ∙ ap (λ (l : List ℕ). with_entry (payload_of count here) (run (place + (5 + count)) l))
    (drop-drop (5 + count) place bytes)
    ∙ ap (λ (p : List ℕ). with_entry p
    (run (place + (5 + count)) (drop (place + (5 + count)) bytes)))
    (ap (take count) (drop-drop 5 place bytes) ∙ sym is))
    ∙ sym (with_entries-push (payloads entries) payload.bytes
    (run (place + (5 + count)) (drop (place + (5 + count)) bytes)))
    ∙ ap (λ (l : List (List ℕ)). with_entries l
    (run (place + (5 + count)) (drop (place + (5 + count)) bytes)))
    (sym (map-append (λ p. p.bytes) entries (payload ∷ [])))

pub first_read : (o : Option (List ℕ)) → IfSome o (IsRead [] 22)
first_read None = tt
first_read (Some bytes) = refl

pub one_more_read : (o : Option (List ℕ)) (entries : List Payload) (payload : Payload)
    (place count : ℕ) → IfSome o (IsRead entries place)
    → IfSome o (λ bytes. FindsEntry (drop place bytes) place (Ok (Some count)))
    → IfSome o (λ bytes. payload.bytes ≡ take count (drop (place + 5) bytes))
    → IfSome o (IsRead (entries ++ payload ∷ []) (place + (5 + count)))
one_more_read None entries payload place count read found is = tt
one_more_read (Some bytes) entries payload place count read found is =
    more entries payload place count bytes read found is

pub ended : (o : Option (List ℕ)) (entries : List Payload) (place : ℕ)
    → IfSome o (IsRead entries place)
    → IfSome o (λ bytes. FindsEntry (drop place bytes) place (Ok None))
    → IfSome o (λ bytes. EndsRun (run_from (length bytes) 22 (drop 22 bytes)) (Ok (place, entries)))
ended None entries place read found = tt
ended (Some bytes) entries place read found =
    read ∙ ap (with_entries (payloads entries))
    (run_closed (length bytes) place (drop place bytes) found)
    ∙ with_entries-holds (payloads entries) [] place
    ∙ ap (λ (l : List (List ℕ)). holds l place) (append-nil (payloads entries))

bad : (entries : List Payload) (place at : ℕ) (bytes : List ℕ) → IsRead entries place bytes
    → FindsEntry (drop place bytes) place (Err (BadEntry at))
    → run_from (length bytes) 22 (drop 22 bytes) ≡ bad_entry at
bad entries place at bytes read found =
    let shorter = length-drop place bytes in
    read ∙ ap (with_entries (payloads entries))
    (open_run (length bytes) place (drop place bytes) false (omega arith) found.1 found.2)
    ∙ with_entries-bad (payloads entries) place ∙ ap bad_entry (sym found.0)

pub stopped : (o : Option (List ℕ)) (entries : List Payload) (place : ℕ) (e : OpenFault)
    → IfSome o (IsRead entries place)
    → IfSome o (λ bytes. FindsEntry (drop place bytes) place (Err e))
    → IfSome o (λ bytes. EndsRun (run_from (length bytes) 22 (drop 22 bytes)) (Err e))
stopped None entries place e read found = tt
stopped (Some bytes) entries place NotAJournal read found = found
stopped (Some bytes) entries place (BadEntry at) read found = bad entries place at bytes read found
stopped (Some bytes) entries place DiskFault read found = tt
stopped (Some bytes) entries place Memory read found = tt

pub failed : (o : Option (List ℕ)) (e : OpenFault) → (e ≡ DiskFault) ⊎ (e ≡ Memory)
    → IfSome o (λ bytes. EndsRun (run_from (length bytes) 22 (drop 22 bytes)) (Err e))
failed None e is = tt
failed (Some bytes) e (inl is) =
    subst (λ (f : OpenFault). EndsRun (run_from (length bytes) 22 (drop 22 bytes)) (Err f)) (sym is)
    tt
failed (Some bytes) e (inr is) =
    subst (λ (f : OpenFault). EndsRun (run_from (length bytes) 22 (drop 22 bytes)) (Err f)) (sym is)
    tt

pub is_fault : {T E : Type 0} (r : Result T E) (e : E) → IsErr r × IsErrAnd r (λ x. x ≡ e) → r
    ≡ Err e
is_fault (Ok x) e h = absurd h.1
is_fault (Err x) e h = ap Err h.1

front_of : (len place n : ℕ) (bytes : List ℕ) → len ≡ length bytes
    → take (min (len - place) n) (drop place bytes) ≡ take n (drop place bytes)
front_of len place n bytes is =
    let shorter = length-drop place bytes in
    let size : min (len - place) n ≡ min n (length (drop place bytes)) = omega arith in
    ap (λ (k : ℕ). take k (drop place bytes)) size ∙ take_min n (drop place bytes)

pub front_told : (o : Option (List ℕ)) (len place n count : ℕ) (front : List ℕ)
    → IfSome o (λ bytes. len ≡ length bytes) → count ≡ min (len - place) n
    → IfSome o (λ bytes. front ≡ take count (drop place bytes))
    → IfSome o (λ bytes. front ≡ take n (drop place bytes))
front_told None len place n count front is e read = tt
front_told (Some bytes) len place n count front is e read =
    read ∙ ap (λ (k : ℕ). take k (drop place bytes)) e ∙ front_of len place n bytes is

pub kind_told : (o : Option (List ℕ)) (kind : Beginning) (front : List ℕ) (len : ℕ)
    → ((bytes : List ℕ) → len ≡ length bytes → front ≡ take 23 bytes → kind ≡ beginning_of bytes)
    → IfSome o (λ bytes. len ≡ length bytes) → IfSome o (λ bytes. front ≡ take 23 (drop 0 bytes))
    → IfSome o (λ bytes. kind ≡ beginning_of bytes)
kind_told None kind front len each is read = tt
kind_told (Some bytes) kind front len each is read = each bytes is read

pub finds_told : (o : Option (List ℕ)) (place len : ℕ) (head : List ℕ)
    (answer : Result (Option ℕ) OpenFault)
    → ((bytes : List ℕ) → length bytes ≡ len - place → take (min (len - place) 5) head
    ≡ take 5 bytes
    → FindsEntry bytes place answer)
    → IfSome o (λ bytes. len ≡ length bytes)
    → IfSome o (λ bytes. take (min (len - place) 5) head ≡ take 5 (drop place bytes))
    → IfSome o (λ bytes. FindsEntry (drop place bytes) place answer)
finds_told None place len head answer each is read = tt
finds_told (Some bytes) place len head answer each is read =
    let shorter = length-drop place bytes in
    each (drop place bytes) (omega arith) read

pub head_told : (o : Option (List ℕ)) (len place n count : ℕ) (into rest : List ℕ)
    → IfSome o (λ bytes. len ≡ length bytes) → count ≡ min (len - place) n → length into ≡ count
    → IfSome o (λ bytes. into ≡ take count (drop place bytes))
    → IfSome o (λ bytes. take (min (len - place) n) (into ++ rest) ≡ take n (drop place bytes))
head_told None len place n count into rest is e size read = tt
head_told (Some bytes) len place n count into rest is e size read =
    take_at into rest (min (len - place) n) (size ∙ e)
    ∙ front_told (Some bytes) len place n count into is e read

-- ---- where the entries end

journal_length-push : (es : List (List ℕ)) (e : List ℕ)
    → journal_length (es ++ e ∷ []) ≡ journal_length es + (5 + length e)
journal_length-push [] e = omega arith
journal_length-push (x ∷ es) e = omega (arith, journal_length-push es e)

pub no_run : RunIsLong [] 22
no_run = record { low = omega arith; sum = refl }

pub longer : (entries : List Payload) (payload : Payload) (place len count : ℕ)
    → RunIsLong entries place → IsEntryAt place len count → length payload.bytes ≡ count
    → RunIsLong (entries ++ payload ∷ []) (place + (5 + count))
longer entries payload place len count so_far here size =
    let pushed = journal_length-push (payloads entries) payload.bytes in
    let mapped = ap journal_length (map-append (λ (p : Payload). p.bytes) entries (payload ∷ [])) in
    record {
      low = here.low;
      sum = omega (arith, so_far.sum, size, pushed, mapped);
    }
