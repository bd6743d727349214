use Rattle.std.proofs.Common.{◌≡◌, [], map, take, drop}
use Rattle.cfg_model.specs.Accounts.{each_once}
use Rattle.cfg_model.specs.AccountMaps.{LeadsToPlaces}
use Rattle.cfg_model.proofs.accounts.places_of.Given as goal

abbrev pub invariant-accounts : goal.invariant-accounts
invariant-accounts l =
    (each_once (map (λ a. a.code) (take l.index l.accounts)) (drop l.index l.accounts)
    ≡ each_once [] l.accounts)
    × LeadsToPlaces l.places.entries (take l.index l.accounts)
