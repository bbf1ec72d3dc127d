-- The parts of one listing that have a number are what the other listing has as part of that number: so these are the parts that
-- change. Rests on specs/Store.antt, `pattern` and `listing`.
use mathlib.Core.List.{List, [], ◌∷◌}
use mathlib.Core.Logic.{inl, inr, ⊎_elim}
use mathlib.Core.Path.{refl, sym, subst}
use Prim.Native.Nat.{ℕ, ◌≤◌, ◌<◌}
use native.Mathlib.Omega.{arith}
use lib.Dec.{T}
use Rattle.pattern.specs.Pattern.{has, Entry}
use Rattle.pattern.specs.Turned.{SameEntries}
use Rattle.pattern.proofs.Rises.{rising_none, rising_front}
use Rattle.pattern.proofs.Tests.{has_cases, has_here}
use Rattle.pattern.proofs.Turning.{Columns, row_below}
use Rattle.listing.specs.Listing.{part, parts, Good}
use Rattle.listing.proofs.Listings.{part_is}
use Rattle.store.specs.Store.{Changing}

pub same_turned : (P R : List (List ℕ)) → SameEntries P R → SameEntries R P
same_turned P R same y k = ((same k y).1, (same k y).0)

-- Part `c` of the one listing names the parts of the other that have `c`; part `r`, where it is to be emptied, is one of them.
pub crossing : {m : ℕ} {starts entries : List ℕ} → Good m starts entries → (R : List (List ℕ)) → SameEntries (parts m starts entries) R → (c r : ℕ) → c < m
    → (r < m → Entry (parts m starts entries) r c) → Changing m R r c (part starts entries c)
crossing {m} {starts} {entries} G R same c r h paired =
    record {
      rise = G.formed.rise c h;
      whole = λ b. here r (paired b);
      having = λ k t. here k ((same k c).1 t);
      only = λ k t. inr ((same k c).0 (subst (λ (l : List ℕ). T (has l k)) (sym (part_is m starts entries c h)) t));
    }
  where
    here : (k : ℕ) → Entry (parts m starts entries) k c → T (has (part starts entries c) k)
    here k t = subst (λ (l : List ℕ). T (has l k)) (part_is m starts entries c h) t

-- Where no part has the number, part `c` alone changes.
pub alone : {m c r : ℕ} {P : List (List ℕ)} → Columns m P → c < m → m ≤ r → Changing m P c r (c ∷ [])
alone {m} {c} {r} C h b =
    record {
      rise = rising_front h (λ k t. absurd t) rising_none;
      whole = λ u. has_here c c [] refl;
      having = λ k t. absurd (omega (arith, row_below C r k t));
      only = λ k t. ⊎_elim (λ e. inl (sym e)) (λ u. absurd u) (has_cases c k [] t);
    }
