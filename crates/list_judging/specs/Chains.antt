-- Accounts in chains, by which is found whether an account stands earlier in a list.
use Rattle.std.specs.Prelude.{ℕ, zero, suc, ◌*◌, ◌/◌, ◌%◌, ◌≤◌, ◌<◌, ◌≡◌, cond, List, eqb, length, get_or}
use Rattle.series.specs.Series.{MOST_POSITIONS}
use Rattle.list_judging.specs.declared.chains.Chains.{Chains as Chains·}

-- the bucket of an account, one of 4,096: the upper twelve bits of a product, since accounts often share their low bits
unfoldable pub bucket : ℕ → ℕ
bucket a = a * 2654435761 % 4294967296 / 1048576

-- one more than the largest j below i with f j in bucket b, or 0 where there is none
unfoldable pub last_in : (ℕ → ℕ) → (ℕ → ℕ) → ℕ → ℕ → ℕ
last_in bucketOf f b zero = 0
last_in bucketOf f b (suc i) = cond (eqb (bucketOf (f i)) b) (suc i) (last_in bucketOf f b i)

-- f 0, .., f (i - 1) are linked: head has the last one of each bucket, next for each one the last before it in its bucket
pub record Chains (bucketOf f : ℕ → ℕ) (head next : List ℕ) (i : ℕ) : Type 0 where
  pub few : i ≤ MOST_POSITIONS
  pub head_long : length head ≡ MOST_POSITIONS
  pub next_long : length next ≡ MOST_POSITIONS
  pub heads : (b : ℕ) → b < MOST_POSITIONS → get_or head b 0 ≡ last_in bucketOf f b i
  pub nexts : (j : ℕ) → j < i → get_or next j 0 ≡ last_in bucketOf f (bucketOf (f j)) j

-- the accounts before position i are linked
abbrev pub Linked : List ℕ → Chains· → ℕ → Type 0
Linked accounts c i = Chains bucket (λ j. get_or accounts j 0) c.head c.next i
