-- The canonical text of a request for a document as it stands is read as that request.
use Rattle.std.proofs.Common.{◌≡◌, ℕ, ◌≤◌, List, None, Ok, codes, IsUtf8, refl, ap, arith}
use Rattle.serde_json.specs.Data.{object, depth}
use Rattle.serde_json.specs.Read.{max_depth}
use Rattle.json_laws.specs.Plain.{IsPlain}
use Rattle.reg_base.specs.Results.{◌>>=◌}
use Rattle.reg_base.proofs.ForAbove.{IsUtf8-name, IsUtf8-tested}
use Rattle.desk_words.specs.declared.members.Operation.TheVariants.{PostStanding}
use Rattle.desk_words.specs.declared.members.Operation.TheVariants.{Unpost as Unpost_op}
use Rattle.desk_words.specs.declared.request.Request.TheVariants.{Post as Post_request}
use Rattle.desk_words.specs.declared.request.Request.TheVariants.{Unpost as Unpost_request}
use Rattle.desk_words.specs.declared.request.Post.TheVariants.{Standing}
use Rattle.desk_words.specs.declared.request.StandingDocument.{StandingDocument}
use Rattle.desk_words.specs.Shapes.{OrFault, value_at}
use Rattle.desk_words.specs.ReadRequests.{standing_document, standing_post}
use Rattle.desk_words.specs.Reading.{operation_of, check_present, check_known, members_of}
use Rattle.desk_words.specs.RequestTexts.{standing_members, request_data}
use Rattle.desk_words.specs.WellFormed.{IsStandingDocument}
use Rattle.desk_words.proofs.ShapesBack.{json_name-back, json_number-back}
use Rattle.desk_words.proofs.TextsBack.{ReadsBack, ReadsBack-members, IsPlain-whole}

-- without a transaction
abbrev pub standing : StandingDocument → StandingDocument
standing s = record s { tx = None }

pub standing-same : (s : StandingDocument) → IsStandingDocument s → s ≡ standing s
standing-same s h = λ i. record s { tx = h.no_tx i }

standing-back : (op : List ℕ) (s : StandingDocument) → IsStandingDocument s
    → standing_document (standing_members op (standing s)) ≡ Ok (standing s)
unfolding standing_document value_at standing_members
standing-back op s h =
    rw (
      json_name-back _ s.clerk h.clerk,
      json_number-back _ s.no h.number,
      json_number-back _ s.doc h.doc,
    )

IsPlain-standing : (op : List ℕ) → IsUtf8 op → (s : StandingDocument) → IsStandingDocument s
    → IsPlain (object (standing_members op (standing s)))
unfolding standing_members
IsPlain-standing op utf8 s h = (
  (IsUtf8-tested (codes "clerk") refl, refl),
  IsUtf8-name s.clerk h.clerk,
  (
    (IsUtf8-tested (codes "doc") refl, refl),
    IsPlain-whole s.doc h.doc,
    (
      (IsUtf8-tested (codes "no") refl, refl),
      IsPlain-whole s.no h.number,
      ((IsUtf8-tested (codes "op") refl, refl), utf8, tt),
    ),
  ),
)

depth-standing : (op : List ℕ) (s : StandingDocument)
    → depth (object (standing_members op (standing s))) ≤ max_depth
unfolding standing_members
depth-standing op s = omega arith

-- it has no member of content
standing_post-back : (op : List ℕ) (s : StandingDocument) → IsStandingDocument s
    → standing_post (standing_members op (standing s)) ≡ Ok (standing s)
unfolding standing_post standing_document value_at standing_members
standing_post-back op s h =
    rw (
      json_name-back _ s.clerk h.clerk,
      json_number-back _ s.no h.number,
      json_number-back _ s.doc h.doc,
    )

pub post_standing-back : (s : StandingDocument) → IsStandingDocument s
    → ReadsBack (Post_request (Standing (standing s)))
unfolding request_data operation_of check_present check_known members_of standing_members
post_standing-back s h =
    ReadsBack-members (Post_request (Standing (standing s))) PostStanding
    (standing_members (codes "post") (standing s))
    refl (IsPlain-standing (codes "post") (IsUtf8-tested (codes "post") refl) s h)
    (depth-standing (codes "post") s) (refl, refl, refl)
    (ap (λ (r : OrFault StandingDocument). r >>= λ x. Ok (Post_request (Standing x)))
    (standing_post-back (codes "post") s h))

pub unpost_text-back : (s : StandingDocument) → IsStandingDocument s
    → ReadsBack (Unpost_request (standing s))
unfolding request_data operation_of check_present check_known members_of standing_members
unpost_text-back s h =
    ReadsBack-members (Unpost_request (standing s)) Unpost_op
    (standing_members (codes "unpost") (standing s))
    refl (IsPlain-standing (codes "unpost") (IsUtf8-tested (codes "unpost") refl) s h)
    (depth-standing (codes "unpost") s) (refl, refl, refl)
    (ap (λ (r : OrFault StandingDocument). r >>= λ x. Ok (Unpost_request x))
    (standing-back (codes "unpost") s h))
