-- For the crates above: an answer that is a fault, over plain variables.
pub use Rattle.desk_core.proofs.ServingLemmas.{is_fault}
