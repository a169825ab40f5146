-- Laws of sums, counts and lists over 0, 1, .., n - 1, and of the total of a list.
use Prim.Native.Nat.{ℕ, zero, suc, ◌+◌, ◌-◌, ◌*◌, ◌≤◌, ◌<◌}
use mathlib.Core.Path.{◌≡◌, refl, sym, ap, ap₂, ◌∙◌}
use mathlib.Core.Bool.{Bool, true, false}
use mathlib.Core.List.{List, [], ◌∷◌, ◌++◌}
use native.Mathlib.Omega.{arith}
use native.Mathlib.Nat.{le_refl, add-zero, add-suc}
use native.Mathlib.Numerals.{add-one}
use native.Mathlib.Decide.{dec_lt}
use lib.Dec.{ltb}
use borrow.Author.Tests.{lt-ltb, le-ltb}
use lib.ListN.{length, get_or, length-append, get_or-append}
use lib.Seq.{get_or_at}
use Rattle.series.specs.Sums.{sum_below, bit, count_below, listed}
use Rattle.series.specs.Places.{total}

pub sum_cong : (f g : ℕ → ℕ) (n : ℕ) → ((i : ℕ) → i < n → f i ≡ g i) → sum_below f n ≡ sum_below g n
unfolding sum_below
sum_cong f g zero h = refl
sum_cong f g (suc n) h = ap₂ ◌+◌ (sum_cong f g n (λ i l. h i (omega arith))) (h n (le_refl (suc n)))

pub sum_mono : (f g : ℕ → ℕ) (n : ℕ) → ((i : ℕ) → i < n → f i ≤ g i) → sum_below f n ≤ sum_below g n
unfolding sum_below
sum_mono f g zero h = le_refl 0
sum_mono f g (suc n) h = omega (arith, sum_mono f g n (λ i l. h i (omega arith)), h n (le_refl (suc n)))

pub sum-add : (f g : ℕ → ℕ) (n : ℕ) → sum_below (λ i. f i + g i) n ≡ sum_below f n + sum_below g n
unfolding sum_below
sum-add f g zero = refl
sum-add f g (suc n) = omega (arith, sum-add f g n)

pub sum_scale : (c : ℕ) (f : ℕ → ℕ) (n : ℕ) → sum_below (λ i. c * f i) n ≡ c * sum_below f n
unfolding sum_below
sum_scale c f zero = omega arith
sum_scale c f (suc n) = omega (arith, sum_scale c f n)

pub sum_const : (c n : ℕ) → sum_below (λ _. c) n ≡ n * c
unfolding sum_below
sum_const c zero = omega arith
sum_const c (suc n) = omega (arith, sum_const c n)

-- the first term apart
pub sum_head : (f : ℕ → ℕ) (n : ℕ) → sum_below f (suc n) ≡ f 0 + sum_below (λ i. f (suc i)) n
unfolding sum_below
sum_head f zero = omega arith
sum_head f (suc n) = omega (arith, sum_head f n)

-- a term is at most the sum
pub sum_term : (f : ℕ → ℕ) (n i : ℕ) → i < n → f i ≤ sum_below f n
unfolding sum_below
sum_term f zero i h = omega arith
sum_term f (suc n) i h =
    elim (dec_lt i n) [ yes l ↦ omega (arith, sum_term f n i l) | no g ↦ let e : i ≡ n = omega arith in omega (arith, ap f e) ]

pub length-listed : {A : Type 0} (f : ℕ → A) (n : ℕ) → length (listed f n) ≡ n
unfolding listed
length-listed f zero = refl
length-listed f (suc n) = length-append (listed f n) (f n ∷ []) ∙ omega (arith, length-listed f n)

pub listed_cong : {A : Type 0} (f g : ℕ → A) (n : ℕ) → ((i : ℕ) → i < n → f i ≡ g i) → listed f n ≡ listed g n
unfolding listed
listed_cong f g zero h = refl
listed_cong f g (suc n) h = ap₂ (λ l x. l ++ (x ∷ [])) (listed_cong f g n (λ i l. h i (omega arith))) (h n (le_refl (suc n)))

pub listed_head : {A : Type 0} (f : ℕ → A) (n : ℕ) → listed f (suc n) ≡ f 0 ∷ listed (λ i. f (suc i)) n
unfolding listed
listed_head f zero = refl
listed_head f (suc n) = ap (λ (l : List _). l ++ (f (suc n) ∷ [])) (listed_head f n)

pub total-append : (xs ys : List ℕ) → total (xs ++ ys) ≡ total xs + total ys
unfolding total
total-append [] ys = omega arith
total-append (x ∷ xs) ys = omega (arith, total-append xs ys)

pub total-listed : (f : ℕ → ℕ) (n : ℕ) → total (listed f n) ≡ sum_below f n
unfolding listed sum_below total
total-listed f zero = refl
total-listed f (suc n) = total-append (listed f n) (f n ∷ []) ∙ omega (arith, total-listed f n)

pub total-sum : (hs : List ℕ) → total hs ≡ sum_below (λ i. get_or hs i 0) (length hs)
unfolding total sum_below
total-sum [] = refl
total-sum (h ∷ hs) = ap (h +◌) (total-sum hs) ∙ sym (sum_head (λ i. get_or (h ∷ hs) i 0) (length hs))

-- a position's shorts are at most T
pub total_term : (hs : List ℕ) (i : ℕ) → i < length hs → get_or hs i 0 ≤ total hs
total_term hs i h = omega (arith, sum_term (λ i. get_or hs i 0) (length hs) i h, total-sum hs)

total_mono : (vs hs : List ℕ) → length vs ≡ length hs → ((i : ℕ) → i < length hs → get_or vs i 0 ≤ get_or hs i 0) → total vs ≤ total hs
total_mono vs hs l most =
    let n : sum_below (λ i. get_or vs i 0) (length vs) ≡ sum_below (λ i. get_or vs i 0) (length hs) = ap (sum_below (λ i. get_or vs i 0)) l in
    omega (arith, total-sum vs, n, sum_mono (λ i. get_or vs i 0) (λ i. get_or hs i 0) (length hs) most, total-sum hs)

-- amounts that add up to T, none above its shorts, are the shorts
pub all_of : (vs hs : List ℕ) → length vs ≡ length hs → total vs ≡ total hs → ((i : ℕ) → i < length hs → get_or vs i 0 ≤ get_or hs i 0) → vs ≡ hs
unfolding total
all_of [] [] l e most = refl
all_of [] (h ∷ hs) l e most = absurd (omega arith)
all_of (v ∷ vs) [] l e most = absurd (omega arith)
all_of (v ∷ vs) (h ∷ hs) l e most =
    let first : v ≤ h = most 0 (omega arith) in
    let others : (i : ℕ) → i < length hs → get_or vs i 0 ≤ get_or hs i 0 = λ i k. most (suc i) (omega arith) in
    let rest : total vs ≤ total hs = total_mono vs hs (omega arith) others in
    let same : v ≡ h = omega arith in
    ap₂ ◌∷◌ same (all_of vs hs (omega arith) (omega arith) others)

pub get_d_listed : (f : ℕ → ℕ) (n i : ℕ) → i < n → get_or (listed f n) i 0 ≡ f i
unfolding listed
get_d_listed f zero i h = absurd (omega arith)
get_d_listed f (suc n) i h =
    elim (dec_lt i n) [
      | yes l ↦
          let k : i < length (listed f n) = omega (arith, length-listed f n) in
          get_or-append (listed f n) (f n ∷ []) 0 i k ∙ get_d_listed f n i l
      | no g ↦
          let e : i ≡ n = omega arith in
          get_or_at (listed f n) (f n) [] 0 i (length-listed f n ∙ sym e) ∙ ap f (sym e)
    ]

-- a sum in two parts
pub sum-split : (f : ℕ → ℕ) (m n : ℕ) → sum_below f (m + n) ≡ sum_below f m + sum_below (λ i. f (m + i)) n
unfolding sum_below
sum-split f m zero = rw (add-zero m) (omega arith)
sum-split f m (suc n) = rw (add-suc m n) (omega (arith, sum-split f m n))

pub bit_le : (b : Bool) → bit b ≤ 1
unfolding bit
bit_le true = omega arith
bit_le false = omega arith

pub count_le : (t : ℕ → Bool) (n : ℕ) → count_below t n ≤ n
unfolding count_below
count_le t n = omega (arith, sum_mono (λ i. bit (t i)) (λ _. 1) n (λ i _. bit_le (t i)), sum_const 1 n)

-- of 0, 1, .., n - 1 the first m are below m
pub count_first : (m n : ℕ) → m ≤ n → count_below (λ k. ltb k m) n ≡ m
unfolding count_below sum_below bit
count_first m zero h = omega arith
count_first m (suc n) h =
    elim (dec_lt n m) [
      | yes l ↦
          let e : m ≡ suc n = omega arith in
          let all : (i : ℕ) → i < suc n → bit (ltb i m) ≡ 1 = λ i k. rw (lt-ltb i m (omega arith)) refl in
          sum_cong (λ i. bit (ltb i m)) (λ _. 1) (suc n) all ∙ omega (arith, sum_const 1 (suc n))
      | no g ↦ rw (le-ltb n m (omega arith)) (omega (arith, count_first m n (omega arith)))
    ]

-- one more term, where a test holds
sum_step : (f : ℕ → ℕ) (k : ℕ) (b : Bool) → sum_below f k + bit b * f k ≡ sum_below f (k + bit b)
unfolding sum_below bit
sum_step f k true = rw (add-one k) (omega arith)
sum_step f k false = rw (add-zero k) (omega arith)

-- the numbers that pass a test, in turn, are numbered 0, 1, .. by the count of those before
pub sum_numbered : (t : ℕ → Bool) (f : ℕ → ℕ) (n : ℕ) → sum_below (λ i. bit (t i) * f (count_below t i)) n ≡ sum_below f (count_below t n)
unfolding count_below sum_below
sum_numbered t f zero = refl
sum_numbered t f (suc n) = ap (◌+ bit (t n) * f (count_below t n)) (sum_numbered t f n) ∙ sum_step f (count_below t n) (t n)

-- one number more passes the test, or not
pub count_more : (t : ℕ → Bool) (n : ℕ) → t n ≡ true → count_below t (n + 1) ≡ count_below t n + 1
unfolding count_below sum_below bit
count_more t n e = rw (add-one n, e) refl

pub count_same : (t : ℕ → Bool) (n : ℕ) → t n ≡ false → count_below t (n + 1) ≡ count_below t n
unfolding count_below sum_below bit
count_same t n e = rw (add-one n, e) (omega arith)

-- the sum of some first terms is at most the sum of all
pub sum_first : (f : ℕ → ℕ) (m n : ℕ) → m ≤ n → sum_below f m ≤ sum_below f n
sum_first f m n h =
    let e : m + (n - m) ≡ n = omega arith in omega (arith, sum-split f m (n - m), ap (sum_below f) e)

pub sum-next : (f : ℕ → ℕ) (n : ℕ) → sum_below f (n + 1) ≡ sum_below f n + f n
unfolding sum_below
sum-next f n = rw (add-one n) refl
