-- For the crates above: the lemmas of this crate that their proofs may cite.
pub use Rattle.desk_plans.proofs.ReadingLemmas.{following, drop_at, following-next, following-done}
