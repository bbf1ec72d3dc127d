-- Stand-ins that do not satisfy the statements, each on one input. Rests on Determined.antt and Soundness.antt.
use mathlib.Core.List.{List, [], ◌∷◌}
use mathlib.Core.Logic.{⊎_elim}
use mathlib.Core.Path.{◌≡◌, refl, ap}
use Prim.Native.Nat.{ℕ, zero, suc, ◌+◌, ◌≤◌, ◌<◌}
use native.Mathlib.Omega.{arith}
use lib.ListN.{length, replicate, get_or-replicate}
use Rattle.pattern.specs.Ladder.{fails, holds}
use Rattle.pattern.specs.Pattern.{Entry}
use Rattle.pattern.specs.Places.{at, Once}
use Rattle.pattern.specs.Series.{tally, numbers}
use Rattle.pattern.specs.Rising.{Rising}
use Rattle.pattern.specs.Turned.{turned}
use Rattle.pattern.proofs.Tests.{has_cases}
use Rattle.listing.specs.Held.{Held}
use Rattle.listing.specs.Listing.{part, Listing}
use Rattle.listing.specs.Look.{Looked}
use Rattle.register.specs.Checks.{FirstFault}
use Rattle.register.specs.Lent.{Lists, lists, Fresh, SoundLists}
use Rattle.register.specs.Start.{Started, started, StartSound, start_lists, StartsWith}
use Rattle.register.proofs.Determined.{fault_one, started_one, look_determined}
use Rattle.register.proofs.Soundness.{no_fault}

-- The register of size 1: its one column has its one row.
abbrev one : Lists
one = lists (0 ∷ 1 ∷ []) (0 ∷ []) (0 ∷ 1 ∷ []) (0 ∷ []) (0 ∷ []) (0 ∷ [])

low : (i : ℕ) → at (0 ∷ []) i ≡ 0
low zero = refl
low (suc i) = refl

one_formed : Listing 1 (0 ∷ 1 ∷ []) (0 ∷ [])
one_formed = record { starts_right = record { first = refl; never_fall = never; total = omega arith }; rise = rise }
  where
    never : (k : ℕ) → k < 1 → at (0 ∷ 1 ∷ []) k ≤ at (0 ∷ 1 ∷ []) (k + 1)
    never zero h = omega arith
    never (suc k) h = absurd (omega arith)

    rise : (k : ℕ) → k < 1 → Rising 1 (part (0 ∷ 1 ∷ []) (0 ∷ []) k)
    rise zero h = record { below = λ i u. omega (arith, low i); rises = λ i u. absurd (omega arith) }
    rise (suc k) h = absurd (omega arith)

one_entry : (r c : ℕ) → Entry ((0 ∷ []) ∷ []) r c → Entry ((0 ∷ []) ∷ []) c r
one_entry zero zero e = e
one_entry zero (suc c) e = absurd e
one_entry (suc r) zero e = ⊎_elim (λ z. absurd (omega arith)) (λ u. absurd u) (has_cases 0 (suc r) [] e)
one_entry (suc r) (suc c) e = absurd e

one_paired : (t : ℕ) → t < 1 → Entry ((0 ∷ []) ∷ []) (at (0 ∷ []) t) (at (0 ∷ []) t)
one_paired zero h = tt
one_paired (suc t) h = absurd (omega arith)

one_once : Once (at (0 ∷ [])) 1 1
one_once = record { below = λ i h. omega (arith, low i); once = λ i j hi hj e. omega arith }

one_sound : SoundLists 1 one
one_sound =
    record {
      sized = omega arith;
      long = omega arith;
      formed = record { columns_formed = one_formed; rows_formed = one_formed };
      agree = λ r c. (one_entry r c, one_entry c r);
      order = record { rows = one_once; cols = one_once; paired = one_paired; upper = λ s t hs ht e. omega arith };
    }

-- ---- The check

-- It cannot say 'sound' to everything: size 0 is refused.
pub passing_all_fails : ¬ ((m : ℕ) (l : Lists) → FirstFault m l 0)
passing_all_fails f = go (f 0 one)
  where
    go : FirstFault 0 one 0 → ⊥
    go (fails n e) = omega arith
    go (holds p q) = omega (arith, p)

-- It cannot refuse everything.
pub refusing_all_fails : ¬ ((m : ℕ) (l : Lists) → (n : ℕ) × (0 < n) × FirstFault m l n)
refusing_all_fails f = let g = f 1 one in omega (arith, g.1, fault_one 1 one g.0 0 g.2 (no_fault 1 one one_sound))

-- ---- The start

-- It cannot take every column listing: size 0 is refused.
pub starting_all_fails : ¬ ((m : ℕ) (l : Lists) → StartsWith m l (started 0 (start_lists m l)))
starting_all_fails f = go (f 0 one)
  where
    go : StartsWith 0 one (started 0 (start_lists 0 one)) → ⊥
    go (fails n e) = omega (arith, ap (λ (o : Started). o.fault) e)
    go (holds p q) = omega (arith, p)

-- The same register with its row listing and its order yet to be written.
abbrev unstarted : Lists
unstarted = lists (0 ∷ 1 ∷ []) (0 ∷ []) (9 ∷ 9 ∷ []) (9 ∷ []) (9 ∷ []) (9 ∷ [])

own_paired : (t : ℕ) → t < 1 → Entry ((0 ∷ []) ∷ []) t t
own_paired zero h = tt
own_paired (suc t) h = absurd (omega arith)

own_once : Once (λ t. t) 1 1
own_once = record { below = λ i h. h; once = λ i j hi hj e. e }

-- It cannot leave these as they are.
pub idle_start_fails : ¬ StartsWith 1 unstarted (started 0 unstarted)
unfolding tally numbers
idle_start_fails f =
    let sound : StartSound 1 unstarted = record { rows = own_once; cols = own_once; paired = own_paired; upper = λ s t hs ht e. omega arith } in
    let right : StartsWith 1 unstarted (started 0 (start_lists 1 unstarted)) = holds (omega arith) (holds (omega arith) (holds one_formed (holds sound refl))) in
    let e = started_one 1 unstarted (started 0 unstarted) (started 0 (start_lists 1 unstarted)) f right in
    omega (arith, ap (λ (o : Started). at o.lists.row_starts 0) e)

-- ---- The look

-- It cannot hand back an empty part always.
pub blind_fails : ¬ Looked 1 0 (0 ∷ 1 ∷ []) (5 ∷ []) []
blind_fails f =
    let right : Looked 1 0 (0 ∷ 1 ∷ []) (5 ∷ []) (5 ∷ []) = record { from = 0; to = 1; spans = holds (omega arith) refl; taken = refl } in
    omega (arith, ap length (look_determined 1 0 (0 ∷ 1 ∷ []) (5 ∷ []) [] (5 ∷ []) f right))

-- Nor the whole list always.
pub staring_fails : ¬ Looked 1 0 (0 ∷ 0 ∷ []) (5 ∷ []) (5 ∷ [])
staring_fails f =
    let right : Looked 1 0 (0 ∷ 0 ∷ []) (5 ∷ []) [] = record { from = 0; to = 0; spans = holds (omega arith) refl; taken = refl } in
    omega (arith, ap length (look_determined 1 0 (0 ∷ 0 ∷ []) (5 ∷ []) (5 ∷ []) [] f right))

-- ---- The fresh order

-- It is not a list of zeros.
pub zeros_fail : ¬ Fresh (replicate 1000 0)
zeros_fail f = omega (arith, f.own 1 (omega arith), get_or-replicate {A = ℕ} 1000 1 0 0 (omega arith))

-- ---- Turning

-- The lists cannot stay as they were, nor take more than the listing.
pub idle_fails : ¬ Held (turned 1 ((0 ∷ []) ∷ [])) (9 ∷ 9 ∷ []) (9 ∷ []) (9 ∷ 9 ∷ []) (9 ∷ [])
unfolding tally numbers
idle_fails f = omega (arith, ap (λ (l : List ℕ). at l 0) f.starts_after)

pub spilling_fails : ¬ Held (turned 1 ((0 ∷ []) ∷ [])) (9 ∷ 9 ∷ 9 ∷ []) (9 ∷ []) (0 ∷ 1 ∷ 0 ∷ []) (0 ∷ [])
unfolding tally numbers
spilling_fails f = omega (arith, ap (λ (l : List ℕ). at l 2) f.starts_after)
