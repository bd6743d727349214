-- The names of a sequence that is read resolve.
use Rattle.std.proofs.Common.{◌≡◌, ℕ, true, List, [], Ok, codes, subst}
use Rattle.std.specs.List.{AllByRecursion, list_all}
use Rattle.std.proofs.lemmas.List.Elements.{All-from_recursion}
use Rattle.toml.specs.Data.{Data, Members}
use Rattle.reg_base.specs.Results.{unless}
use Rattle.cfg_model.specs.declared.register.Register.{Register}
use Rattle.cfg_model.specs.declared.kind.Kind.{Kind}
use Rattle.cfg_model.specs.declared.sequence.Sequence.{Sequence}
use Rattle.cfg_model.specs.declared.fault.CfgFault.TheVariants.{Field}
use Rattle.cfg_model.specs.Words.{sequence_keys}
use Rattle.cfg_model.specs.Walk.{entry_keys, all_known}
use Rattle.cfg_model.specs.Resolving.{HasNames}
use Rattle.cfg_model.specs.Sequences.{sequence_path, read_names, read_some_names, has_kind}
use Rattle.cfg_model.specs.Sequences.{has_register, has_balances, is_shared, read_documents}
use Rattle.cfg_model.specs.Sequences.{read_affecting, all_shared, sequence_of, read_sequence}
use Rattle.cfg_model.proofs.Steps.{bind-Ok, same_Ok, unless-Ok}
use Rattle.cfg_model.proofs.ListLemmas.{all_known-Ok, list_all-each}

read_documents-known : (kinds : List Kind) (name : List ℕ) (keys : Members)
    (documents : List (List ℕ))
    → read_documents kinds name keys ≡ Ok documents
    → AllByRecursion (λ n. has_kind kinds n ≡ true) documents
unfolding read_documents
read_documents-known kinds name keys documents e =
    let (found, are_names, more) =
    bind-Ok (read_some_names name (codes "documents") keys) _ documents e in
    let (u, known, made) = bind-Ok (all_known (has_kind kinds) found) _ documents more in
    subst (AllByRecursion (λ n. has_kind kinds n ≡ true)) (same_Ok _ _ made)
    (all_known-Ok (has_kind kinds) found u known)

read_affecting-known : (registers : List Register) (name : List ℕ) (keys : Members)
    (affecting : List (List ℕ))
    → read_affecting registers name keys ≡ Ok affecting
    → AllByRecursion (λ n. has_balances registers n ≡ true) affecting
unfolding read_affecting
read_affecting-known registers name keys affecting e =
    let (found, are_names, a) =
    bind-Ok (read_some_names name (codes "registers") keys) _ affecting e in
    let (u, known, b) = bind-Ok (all_known (has_register registers) found) _ affecting a in
    let path = sequence_path name (codes "registers") in
    let (v, balances, made) =
    bind-Ok (unless (list_all (has_balances registers) found) (Field path)) _ affecting b in
    subst (AllByRecursion (λ n. has_balances registers n ≡ true)) (same_Ok _ _ made)
    (list_all-each (has_balances registers) found (unless-Ok _ (Field path) v balances))

-- the names of a sequence that is read stand for what they should
pub read_sequence-names : (registers : List Register) (kinds : List Kind) (name : List ℕ) (d : Data)
    → (s : Sequence) → read_sequence registers kinds name d ≡ Ok s → HasNames registers kinds s
unfolding read_sequence sequence_of all_shared
read_sequence-names registers kinds name d s e =
    let entry = entry_keys (codes "sequence") [] sequence_keys name d in
    let (keys, opened, a) = bind-Ok entry _ s e in
    let (documents, are_documents, b) = bind-Ok (read_documents kinds name keys) _ s a in
    let (affecting, are_affecting, c) = bind-Ok (read_affecting registers name keys) _ s b in
    let (dimensions, are_dimensions, f) =
    bind-Ok (read_names name (codes "dimensions") keys) _ s c in
    let shared = is_shared registers kinds documents affecting in
    let (u, known, made) = bind-Ok (all_known shared dimensions) _ s f in
    subst (HasNames registers kinds) (same_Ok _ _ made) (record {
      each_kind = All-from_recursion _ documents
          (read_documents-known kinds name keys documents are_documents);
      each_register = All-from_recursion _ affecting
          (read_affecting-known registers name keys affecting are_affecting);
      each_dimension = All-from_recursion _ dimensions (all_known-Ok shared dimensions u known);
    })
