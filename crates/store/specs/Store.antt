-- A column exchanged in both listings, for the contracts of the steps of `store` and of `join`. Rests on `pattern` and `listing`.
use Rattle.std.specs.Prelude.{cond, ◌||◌, List, [], ◌∷◌, ◌≢◌, ◌⊎◌, ◌≡◌, ℕ, ◌+◌, ◌-◌, ◌≤◌, ◌<◌, T, eqb, length, set}
use Rattle.pattern.specs.Pattern.{has, column, Entry}
use Rattle.pattern.specs.Places.{at}
use Rattle.pattern.specs.Rising.{Rising}
use Rattle.pattern.specs.Series.{each, numbers}
use Rattle.listing.specs.Held.{put}
use Rattle.listing.specs.Listing.{between, part}
use Rattle.listing.specs.Walk.{Kept}

-- The numbers of a list other than `r`.
abbrev pub without : ℕ → List ℕ → List ℕ
without r [] = []
without r (x ∷ l) = cond (eqb x r) (without r l) (x ∷ without r l)

-- What is left of column `k`: nothing of column `c`, and of the others the rows other than `r`.
abbrev pub left : List (List ℕ) → ℕ → ℕ → ℕ → List ℕ
left P c r k = cond (eqb k c) [] (without r (column P k))

-- Row `r` is struck out of every column, and column `c` has nothing.
abbrev pub emptied : (m : ℕ) (P : List (List ℕ)) (c r : ℕ) → List (List ℕ)
emptied m P c r = each (left P c r) m

-- Row `r` is struck out of every column, and column `c` has the rows of a list.
abbrev pub exchanged : (m : ℕ) (P : List (List ℕ)) (c r : ℕ) → List ℕ → List (List ℕ)
exchanged m P c r l = each (λ k. cond (eqb k c) l (without r (column P k))) m

-- Column `c` has other numbers.
abbrev pub filled : (m : ℕ) (P : List (List ℕ)) (c : ℕ) → List ℕ → List (List ℕ)
filled m P c l = each (λ k. cond (eqb k c) l (column P k)) m

-- The starts past start `c`, up to start `m`, are `n` more.
pub record Raised (c m n : ℕ) (starts starts' : List ℕ) : Type 0 where
  pub kept : Kept (m + 1) starts starts'
  pub before : (k : ℕ) → k ≤ c → at starts' k ≡ at starts k
  pub after : (k : ℕ) → c < k → k ≤ m → at starts' k ≡ at starts k + n

-- The starts of the places `a` up to `b` are `n` less.
pub record Lowered (a b n : ℕ) (starts starts' : List ℕ) : Type 0 where
  pub long : length starts' ≡ length starts
  pub others : (k : ℕ) → (k < a) ⊎ (b ≤ k) → at starts' k ≡ at starts k
  pub less : (k : ℕ) → a ≤ k → k < b → at starts' k + n ≡ at starts k

-- The parts of which something is to be deleted: part `c`, and those that have the number `r`.
pub record Changing (m : ℕ) (P : List (List ℕ)) (c r : ℕ) (these : List ℕ) : Type 0 where
  pub rise : Rising m these
  pub whole : c < m → T (has these c)
  pub having : (k : ℕ) → Entry P r k → T (has these k)
  pub only : (k : ℕ) → T (has these k) → (k ≡ c) ⊎ Entry P r k

-- The numbers below `m` that are `c` or stand in a list, in rising order.
abbrev pub joined : (m c : ℕ) → List ℕ → List ℕ
joined m c l = numbers (λ k. eqb k c || has l k) m

-- The number `c` joins each of the parts that a list names.
abbrev pub spread : (m c : ℕ) → List ℕ → List (List ℕ) → List (List ℕ)
spread m c [] P = P
spread m c (k ∷ l) P = set (spread m c l P) k (joined m c (column (spread m c l P) k))

-- The first `n` numbers of a list are below `c`, and the next one is not.
pub record Cut (c n : ℕ) (l : List ℕ) : Type 0 where
  pub within : n ≤ length l
  pub below : (i : ℕ) → i < n → at l i < c
  pub next : n < length l → c ≤ at l n

-- The number `c` stands `i` places above its place `q` in part `k`, and the entries that were there and before place `end` are
-- `i + 1` places higher; the starts past start `k`, up to start `top`, are as many more.
pub record LetIn (c k end top i : ℕ) (starts entries starts' entries' : List ℕ) (q : ℕ) : Type 0 where
  pub from : at starts k ≤ q
  pub cut : Cut c (q - at starts k) (part starts entries k)
  pub entries_now : entries' ≡ put (q + i) (c ∷ between q end entries) entries
  pub raised : Raised k top (i + 1) starts starts'

-- The places of part `k` that are to be deleted: all of part `c`, and the place of `r` in another.
pub record Piece (c r k : ℕ) (starts entries : List ℕ) (from to : ℕ) : Type 0 where
  pub all : k ≡ c → (from ≡ at starts k) × (to ≡ at starts (k + 1))
  pub one : k ≢ c → (at starts k ≤ from) × Cut r (from - at starts k) (part starts entries k) × (to ≡ from + 1)
