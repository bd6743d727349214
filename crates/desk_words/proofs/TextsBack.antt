-- The text of a plain object is read as the object, and so the text of a request as the request.
use Rattle.std.proofs.Common.{◌≡◌, ℕ, ◌≤◌, List, Ok}
use Rattle.std.proofs.Common.{arith, IsUtf8}
use Rattle.serde_json.specs.Data.{object, Members, depth}
use Rattle.serde_json.specs.Read.{max_depth}
use Rattle.serde_json.specs.Written.{compact_text}
use Rattle.json_laws.specs.Plain.{IsPlain}
use Rattle.json_laws.proofs.ForAbove.{read-compact_text}
use Rattle.json_laws.proofs.ForAbove.{IsUtf8-compact_text}
use Rattle.desk_words.specs.declared.members.Operation.{Operation}
use Rattle.desk_words.specs.declared.request.Request.{Request}
use Rattle.desk_words.specs.Reading.{operation_of, check_present, check_known, members_of}
use Rattle.desk_words.specs.Reading.{request_in, request_of_text}
use Rattle.desk_words.specs.JsonValues.{whole}
use Rattle.desk_words.specs.RequestTexts.{request_data, request_text}
use Rattle.desk_words.specs.WellFormedParts.{IsNumber, IsComment}
use Rattle.desk_words.proofs.Documents.{json_document-text}

-- the text of a plain object is read as its members
text-back : (ms : Members) → IsPlain (object ms) → depth (object ms) ≤ max_depth
    → request_of_text (compact_text (object ms)) ≡ request_in ms
unfolding request_of_text
text-back ms plain shallow =
    rw (
      json_document-text (compact_text (object ms)) (IsUtf8-compact_text (object ms) plain),
      read-compact_text (object ms) plain shallow,
    )

-- an object asks for this operation, lacks nothing of it, and has nothing too much
abbrev pub AsksFor : Operation → Members → Type 0
AsksFor op ms =
    (operation_of ms ≡ Ok op) × (check_present op ms ≡ Ok tt) × (check_known op ms ≡ Ok tt)

-- the canonical text of a request is read as the request
abbrev pub ReadsBack : Request → Type 0
ReadsBack r = request_of_text (request_text r) ≡ Ok r

-- so it is where its members are plain, ask for an operation, and are read as the request
pub ReadsBack-members : (r : Request) (op : Operation) (ms : Members) → request_data r ≡ object ms
    → IsPlain (object ms) → depth (object ms) ≤ max_depth → AsksFor op ms → members_of op ms ≡ Ok r
    → ReadsBack r
unfolding request_text request_in
ReadsBack-members r op ms is plain shallow asks members =
    rw (is, text-back ms plain shallow, asks.0, asks.1, asks.2) members

-- a number fits 64 bits
pub IsPlain-whole : (n : ℕ) → IsNumber n → IsPlain (whole n)
IsPlain-whole n is = omega (arith, is.1)

pub IsUtf8-comment : (text : List ℕ) → IsComment text → IsUtf8 text
IsUtf8-comment text is = is.1
