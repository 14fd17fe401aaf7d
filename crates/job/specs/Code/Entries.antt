-- Between functions: what the words of kinds 2, 4 and 14 list, as numbers, and the set of them that the scan carries.
use Rattle.std.specs.Prelude.{Bool, true, cond, ◌&&◌, ◌||◌, List, ◌≡◌, ℕ, ◌+◌, ◌-◌, ◌*◌, ◌/◌, ◌%◌, eqb, length, get_or}
use Rattle.words.specs.Fields.{kind, fluent_of, role_of, group_number, group_action}
use Rattle.words.specs.Scan.{any}
use Rattle.bitset.specs.Code.Members.{has}
use Rattle.job.specs.Before.{since}
use Rattle.job.specs.Follow.{predecessor, may_follow}

-- the kinds of words that list something
abbrev pub lists : ℕ → Bool
lists k = eqb k 2 || eqb k 4 || eqb k 14

-- what such a word lists: an action in a group (kind 14), or a fluent in a pair of roles
abbrev pub entry_of : ℕ → ℕ → ℕ
entry_of head w = cond (eqb (kind w) 14) (group_number w * 64 + group_action w) (role_of head w / 2 * 256 + fluent_of head w)

-- word v is of the kind of w and lists what w lists
abbrev pub same_entry : ℕ → ℕ → ℕ → Bool
same_entry head w v = eqb (kind v) (kind w) && eqb (entry_of head w) (entry_of head v)

-- the set, kept in rows of 64, has the number n
abbrev pub has_entry : List ℕ → ℕ → Bool
has_entry rows n = has (get_or rows (n / 64) 0) (n % 64)

-- the set after word v: with what v lists, or empty where v is of a kind that lists nothing
pub record Stored (head v : ℕ) (old new : List ℕ) : Type 0 where
  pub size : length new ≡ 16
  pub entry : (n : ℕ) → has_entry new n ≡ (lists (kind v) && (eqb n (entry_of head v) || has_entry old n))

-- the set tells of a word that may stand next whether the words p before list what it lists. A kind that lists something follows only
-- itself and the kind one below, so that the words since one of that kind are the run before it.
pub record Listed (head : ℕ) (p rows : List ℕ) : Type 0 where
  pub size : length rows ≡ 16
  pub entry : (w : ℕ) → lists (kind w) ≡ true → may_follow (kind w) (predecessor p) ≡ true
      → has_entry rows (entry_of head w) ≡ any (same_entry head w) (since (kind w - 1) p)
