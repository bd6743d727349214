-- The canonical text of a request is read as that request.
use Rattle.std.proofs.Common.{◌≡◌, ℕ, ◌≤◌, List, None, Ok}
use Rattle.std.proofs.Common.{codes, IsUtf8, refl, ap, sym, subst, arith}
use Rattle.serde_json.specs.Data.{object, depth}
use Rattle.serde_json.specs.Read.{max_depth}
use Rattle.json_laws.specs.Plain.{IsPlain}
use Rattle.reg_base.specs.Results.{◌>>=◌}
use Rattle.reg_base.specs.declared.line.Line.TheVariants.{Text}
use Rattle.reg_base.proofs.ForAbove.{IsUtf8-name, IsUtf8-date_text}
use Rattle.reg_base.proofs.ForAbove.{IsUtf8-tested}
use Rattle.desk_words.specs.declared.members.Operation.TheVariants.{Mark as Mark_op}
use Rattle.desk_words.specs.declared.members.Operation.TheVariants.{Activity as Activity_op}
use Rattle.desk_words.specs.declared.members.Operation.TheVariants.{Close as Close_op}
use Rattle.desk_words.specs.declared.members.Operation.TheVariants.{Sweep as Sweep_op}
use Rattle.desk_words.specs.declared.members.Operation.TheVariants.{Doc as Doc_op}
use Rattle.desk_words.specs.declared.request.Request.{Request}
use Rattle.desk_words.specs.declared.request.Request.TheVariants.{Write as Write_request}
use Rattle.desk_words.specs.declared.request.Request.TheVariants.{Mark as Mark_request}
use Rattle.desk_words.specs.declared.request.Request.TheVariants.{Manual as Manual_request}
use Rattle.desk_words.specs.declared.request.Request.TheVariants.{Activity as Activity_request}
use Rattle.desk_words.specs.declared.request.Request.TheVariants.{Close as Close_request}
use Rattle.desk_words.specs.declared.request.Request.TheVariants.{Sweep as Sweep_request}
use Rattle.desk_words.specs.declared.request.Request.TheVariants.{Balance as Balance_request}
use Rattle.desk_words.specs.declared.request.Request.TheVariants.{Doc as Doc_request}
use Rattle.desk_words.specs.declared.request.Request.TheVariants.{Post as Post_request}
use Rattle.desk_words.specs.declared.request.Request.TheVariants.{Unpost as Unpost_request}
use Rattle.desk_words.specs.declared.request.Request.TheVariants.{Turnovers as Turnovers_request}
use Rattle.desk_words.specs.declared.request.Request.TheVariants.{Both as Both_request}
use Rattle.desk_words.specs.declared.request.Request.TheVariants.{AccountBalance as Held_request}
use Rattle.desk_words.specs.declared.request.Request.TheVariants.{AccountTurnovers as Moved_request}
use Rattle.desk_words.specs.declared.request.Request.TheVariants.{AccountBoth as Whole_request}
use Rattle.desk_words.specs.declared.request.Request.TheVariants.{DrCr as DrCr_request}
use Rattle.desk_words.specs.declared.request.Request.TheVariants.{Documents as Documents_request}
use Rattle.desk_words.specs.declared.request.Post.TheVariants.{Content, Standing}
use Rattle.desk_words.specs.declared.request.StandingDocument.{StandingDocument}
use Rattle.desk_words.specs.declared.request.Switch.{Switch}
use Rattle.desk_words.specs.declared.request.Close.{Close}
use Rattle.desk_words.specs.declared.request.Sweep.{Sweep}
use Rattle.desk_words.specs.declared.request.Balance.{Balance}
use Rattle.desk_words.specs.declared.request.DocQuestion.{DocQuestion}
use Rattle.desk_words.specs.declared.tables.Turnovers.{Turnovers}
use Rattle.desk_words.specs.declared.tables.Both.{Both}
use Rattle.desk_words.specs.declared.tables.AccountBalance.{AccountBalance}
use Rattle.desk_words.specs.declared.tables.AccountTurnovers.{AccountTurnovers}
use Rattle.desk_words.specs.declared.tables.DrCr.{DrCr}
use Rattle.desk_words.specs.declared.tables.DocumentsQuestion.{DocumentsQuestion}
use Rattle.desk_words.specs.Shapes.{OrFault, value_at, json_boolean}
use Rattle.desk_words.specs.ReadRequests.{standing_document}
use Rattle.desk_words.specs.ReadRequests.{switch_request, close_request, sweep_request}
use Rattle.desk_words.specs.ReadRequests.{doc_question}
use Rattle.desk_words.specs.Reading.{operation_of, check_present, check_known, members_of}
use Rattle.desk_words.specs.Reading.{request}
use Rattle.desk_words.specs.RequestTexts.{switch_members, close_members, sweep_members}
use Rattle.desk_words.specs.RequestTexts.{doc_members}
use Rattle.desk_words.specs.RequestTexts.{request_data, request_text}
use Rattle.desk_words.specs.WellFormed.{IsSwitch, IsCloseRequest, IsSweepRequest, IsDocQuestion}
use Rattle.desk_words.specs.WellFormed.{IsRequest}
use Rattle.desk_words.proofs.ShapesBack.{json_name-back, json_number-back}
use Rattle.desk_words.proofs.ShapesBack.{json_date-back}
use Rattle.desk_words.proofs.TextsBack.{ReadsBack, ReadsBack-members, IsPlain-whole}
use Rattle.desk_words.proofs.DocumentsBack.{write_text-back, post_text-back, manual_text-back}
use Rattle.desk_words.proofs.StandingBack.{standing-same, post_standing-back, unpost_text-back}
use Rattle.desk_words.proofs.TablesBack.{balance_text-back, turnovers_text-back, both_text-back}
use Rattle.desk_words.proofs.TablesBack.{held_text-back, moved_text-back, whole_text-back}
use Rattle.desk_words.proofs.TablesBack.{dr_cr_text-back, documents_text-back}

-- ---- `mark` and `activity`

-- without a transaction
abbrev switched : Switch → Switch
switched s = record s { tx = None }

switched-same : (s : Switch) → IsSwitch s → s ≡ switched s
switched-same s h = λ i. record s { tx = h.no_tx i }

switch-back : (op : List ℕ) (s : Switch) → IsSwitch s
    → switch_request (switch_members op (switched s)) ≡ Ok (switched s)
unfolding switch_request standing_document value_at switch_members json_boolean
switch-back op s h =
    rw (
      json_name-back _ s.clerk h.clerk,
      json_number-back _ s.no h.number,
      json_number-back _ s.doc h.doc,
    )

IsPlain-switch : (op : List ℕ) → IsUtf8 op → (s : Switch) → IsSwitch s
    → IsPlain (object (switch_members op (switched s)))
unfolding switch_members
IsPlain-switch op utf8 s h = (
  (IsUtf8-tested (codes "clerk") refl, refl),
  IsUtf8-name s.clerk h.clerk,
  (
    (IsUtf8-tested (codes "doc") refl, refl),
    IsPlain-whole s.doc h.doc,
    (
      (IsUtf8-tested (codes "no") refl, refl),
      IsPlain-whole s.no h.number,
      (
        (IsUtf8-tested (codes "on") refl, refl),
        tt,
        ((IsUtf8-tested (codes "op") refl, refl), utf8, tt),
      ),
    ),
  ),
)

depth-switch : (op : List ℕ) (s : Switch)
    → depth (object (switch_members op (switched s))) ≤ max_depth
unfolding switch_members
depth-switch op s = omega arith

mark_text-back : (s : Switch) → IsSwitch s → ReadsBack (Mark_request (switched s))
unfolding request_data operation_of check_present check_known members_of switch_members
mark_text-back s h =
    ReadsBack-members (Mark_request (switched s)) Mark_op
    (switch_members (codes "mark") (switched s)) refl
    (IsPlain-switch (codes "mark") (IsUtf8-tested (codes "mark") refl) s h)
    (depth-switch (codes "mark") s) (refl, refl, refl)
    (ap (λ (r : OrFault Switch). r >>= λ x. Ok (Mark_request x)) (switch-back (codes "mark") s h))

activity_text-back : (s : Switch) → IsSwitch s → ReadsBack (Activity_request (switched s))
unfolding request_data operation_of check_present check_known members_of switch_members
activity_text-back s h =
    ReadsBack-members (Activity_request (switched s)) Activity_op
    (switch_members (codes "activity") (switched s))
    refl (IsPlain-switch (codes "activity") (IsUtf8-tested (codes "activity") refl) s h)
    (depth-switch (codes "activity") s) (refl, refl, refl)
    (ap (λ (r : OrFault Switch). r >>= λ x. Ok (Activity_request x))
    (switch-back (codes "activity") s h))

-- ---- `close`, `sweep` and `doc`

close-back : (c : Close) → IsCloseRequest c
    → members_of Close_op (close_members c) ≡ Ok (Close_request c)
unfolding members_of close_request value_at close_members
close-back c h =
    rw (
      json_name-back _ c.clerk h.clerk,
      json_number-back _ c.no h.number,
      json_date-back _ c.date h.date,
    )

IsPlain-close : (c : Close) → IsCloseRequest c → IsPlain (object (close_members c))
unfolding close_members
IsPlain-close c h = (
  (IsUtf8-tested (codes "clerk") refl, refl),
  IsUtf8-name c.clerk h.clerk,
  (
    (IsUtf8-tested (codes "date") refl, refl),
    IsUtf8-date_text c.date,
    (
      (IsUtf8-tested (codes "no") refl, refl),
      IsPlain-whole c.no h.number,
      ((IsUtf8-tested (codes "op") refl, refl), IsUtf8-tested (codes "close") refl, tt),
    ),
  ),
)

depth-close : (c : Close) → depth (object (close_members c)) ≤ max_depth
unfolding close_members
depth-close c = omega arith

close_text-back : (c : Close) → IsCloseRequest c → ReadsBack (Close_request c)
unfolding request_data operation_of check_present check_known close_members
close_text-back c h =
    ReadsBack-members (Close_request c) Close_op (close_members c) refl (IsPlain-close c h)
    (depth-close c) (refl, refl, refl) (close-back c h)

sweep-back : (s : Sweep) → IsSweepRequest s
    → members_of Sweep_op (sweep_members s) ≡ Ok (Sweep_request s)
unfolding members_of sweep_request standing_document value_at sweep_members
sweep-back s h =
    rw (
      json_name-back _ s.clerk h.clerk,
      json_number-back _ s.no h.number,
      json_number-back _ s.doc h.doc,
    )

IsPlain-sweep : (s : Sweep) → IsSweepRequest s → IsPlain (object (sweep_members s))
unfolding sweep_members
IsPlain-sweep s h = (
  (IsUtf8-tested (codes "clerk") refl, refl),
  IsUtf8-name s.clerk h.clerk,
  (
    (IsUtf8-tested (codes "doc") refl, refl),
    IsPlain-whole s.doc h.doc,
    (
      (IsUtf8-tested (codes "no") refl, refl),
      IsPlain-whole s.no h.number,
      ((IsUtf8-tested (codes "op") refl, refl), IsUtf8-tested (codes "sweep") refl, tt),
    ),
  ),
)

depth-sweep : (s : Sweep) → depth (object (sweep_members s)) ≤ max_depth
unfolding sweep_members
depth-sweep s = omega arith

sweep_text-back : (s : Sweep) → IsSweepRequest s → ReadsBack (Sweep_request s)
unfolding request_data operation_of check_present check_known sweep_members
sweep_text-back s h =
    ReadsBack-members (Sweep_request s) Sweep_op (sweep_members s) refl (IsPlain-sweep s h)
    (depth-sweep s) (refl, refl, refl) (sweep-back s h)

-- without a transaction
abbrev question : DocQuestion → DocQuestion
question d = record d { tx = None }

question-same : (d : DocQuestion) → IsDocQuestion d → d ≡ question d
question-same d h = λ i. record d { tx = h.no_tx i }

doc-back : (d : DocQuestion) → IsDocQuestion d
    → members_of Doc_op (doc_members (question d)) ≡ Ok (Doc_request (question d))
unfolding members_of doc_question value_at doc_members
doc-back d h =
    rw (
      json_name-back _ d.clerk h.clerk,
      json_number-back _ d.doc h.doc,
    )

IsPlain-doc : (d : DocQuestion) → IsDocQuestion d → IsPlain (object (doc_members (question d)))
unfolding doc_members
IsPlain-doc d h = (
  (IsUtf8-tested (codes "clerk") refl, refl),
  IsUtf8-name d.clerk h.clerk,
  (
    (IsUtf8-tested (codes "doc") refl, refl),
    IsPlain-whole d.doc h.doc,
    ((IsUtf8-tested (codes "op") refl, refl), IsUtf8-tested (codes "doc") refl, tt),
  ),
)

depth-doc : (d : DocQuestion) → depth (object (doc_members (question d))) ≤ max_depth
unfolding doc_members
depth-doc d = omega arith

doc_text-back : (d : DocQuestion) → IsDocQuestion d → ReadsBack (Doc_request (question d))
unfolding request_data operation_of check_present check_known doc_members
doc_text-back d h =
    ReadsBack-members (Doc_request (question d)) Doc_op (doc_members (question d)) refl
    (IsPlain-doc d h) (depth-doc d) (refl, refl, refl) (doc-back d h)

-- the canonical text of a request is read as the request
pub request-back : (r : Request) → IsRequest r → request (Text (request_text r)) ≡ Ok r
request-back (Write_request w) h = write_text-back w h
request-back (Mark_request s) h =
    subst (λ (x : Switch). ReadsBack (Mark_request x)) (sym (switched-same s h))
    (mark_text-back s h)
request-back (Manual_request m) h = manual_text-back m h
request-back (Activity_request s) h =
    subst (λ (x : Switch). ReadsBack (Activity_request x)) (sym (switched-same s h))
    (activity_text-back s h)
request-back (Close_request c) h = close_text-back c h
request-back (Sweep_request s) h = sweep_text-back s h
request-back (Balance_request b) h =
    subst (λ (x : Balance). ReadsBack (Balance_request x))
    (λ i. record b { tx = sym h.no_tx i }) (balance_text-back b h)
request-back (Doc_request d) h =
    subst (λ (x : DocQuestion). ReadsBack (Doc_request x)) (sym (question-same d h))
    (doc_text-back d h)
request-back (Post_request (Content w)) h = post_text-back w h
request-back (Post_request (Standing s)) h =
    subst (λ (x : StandingDocument). ReadsBack (Post_request (Standing x)))
    (sym (standing-same s h)) (post_standing-back s h)
request-back (Unpost_request s) h =
    subst (λ (x : StandingDocument). ReadsBack (Unpost_request x)) (sym (standing-same s h))
    (unpost_text-back s h)
request-back (Turnovers_request t) h =
    subst (λ (x : Turnovers). ReadsBack (Turnovers_request x))
    (λ i. record t { tx = sym h.no_tx i }) (turnovers_text-back t h)
request-back (Both_request b) h =
    subst (λ (x : Both). ReadsBack (Both_request x))
    (λ i. record b { turnovers = record b.turnovers { tx = sym h.no_tx i } })
    (both_text-back b h)
request-back (Held_request a) h =
    subst (λ (x : AccountBalance). ReadsBack (Held_request x))
    (λ i. record a { tx = sym h.no_tx i }) (held_text-back a h)
request-back (Moved_request a) h =
    subst (λ (x : AccountTurnovers). ReadsBack (Moved_request x))
    (λ i. record a { tx = sym h.no_tx i }) (moved_text-back a h)
request-back (Whole_request a) h =
    subst (λ (x : AccountTurnovers). ReadsBack (Whole_request x))
    (λ i. record a { tx = sym h.no_tx i }) (whole_text-back a h)
request-back (DrCr_request d) h =
    subst (λ (x : DrCr). ReadsBack (DrCr_request x))
    (λ i. record d { tx = sym h.no_tx i }) (dr_cr_text-back d h)
request-back (Documents_request d) h =
    subst (λ (x : DocumentsQuestion). ReadsBack (Documents_request x))
    (λ i. record d { tx = sym h.no_tx i }) (documents_text-back d h)
