-- What is known of the requests of groups, by themselves.
use Rattle.std.specs.Prelude.{◌≡◌, ℕ, codes, List, Some, None}
use Rattle.desk_words.specs.declared.request.Post.TheVariants.{Content}
use Rattle.desk_words.specs.declared.request.Request.TheVariants.{Post}
use Rattle.desk_words.specs.declared.request.Write.{Write}
use Rattle.desk_words.specs.WellFormed.{IsWriteRequest}
use Rattle.csv_groups.specs.declared.group.Group.{Group}

-- well formed content of a new document of this key, for the clerk `batch` and under the number 1
pub record IsBatchContent (key : List ℕ) (content : Write) : Type 0 where
  pub formed : IsWriteRequest content
  pub clerk : content.clerk ≡ codes "batch"
  pub number : content.no ≡ 1
  pub doc : content.doc ≡ None
  pub key_given : content.key ≡ Some key

-- the request of a group posts such content
abbrev pub IsBatchPost : Group → Type 0
IsBatchPost group =
    (content : Write) × (group.request ≡ Post (Content content)) × IsBatchContent group.key content
