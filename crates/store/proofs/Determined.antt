-- No two outcomes satisfy the contract of a function for the crates above, as its source states it. Rests on specs/Store.antt and
-- `listing`.
use mathlib.Core.Bool.{Bool, true, false}
use mathlib.Core.List.{List}
use mathlib.Core.Path.{◌≡◌, refl}
use Prim.Native.Nat.{ℕ}
use native.Mathlib.Omega.{arith}
use lib.Dec.{ltb}
use borrow.Author.Tests.{ltb-true, ltb-false}
use Rattle.listing.specs.Contract.{Determined, DeterminedAs}
use Rattle.listing.proofs.Determined.{same, held_one}
use Rattle.store.specs.Store.{Cut}
use Rattle.store.proofs.join.below.Kinds as below-kinds
use Rattle.store.proofs.join.below.Reads as below
use Rattle.store.proofs.join.join.Kinds as join-kinds
use Rattle.store.proofs.join.join.Reads as join
use Rattle.store.proofs.store.store.Kinds as store-kinds
use Rattle.store.proofs.store.store.Reads as store

-- A list is cut in one place.
pub cut_one : {c n n' : ℕ} {l : List ℕ} → Cut c n l → Cut c n' l → n ≡ n'
cut_one {c} {n} {n'} {l} p q = go (ltb n n') refl (ltb n' n) refl
  where
    -- The number at the smaller place would be below c and not.
    go : (b : Bool) → ltb n n' ≡ b → (d : Bool) → ltb n' n ≡ d → n ≡ n'
    go true e d f = let h = ltb-true n n' e in absurd (omega (arith, q.below n h, p.next (omega (arith, h, q.within))))
    go false e true f = let h = ltb-true n' n f in absurd (omega (arith, p.below n' h, q.next (omega (arith, h, p.within))))
    go false e false f = omega (arith, ltb-false n n' e, ltb-false n' n f)

pub below_determined : Determined below-kinds.ps below-kinds.r below.Pre below.Post
below_determined κs a h x y ws vs p q = (cut_one p q, refl)

pub join_determined : Determined join-kinds.ps join-kinds.r join.Pre join.Post
join_determined κs a h x y ws vs p q = (same p.0 q.0, λ i. (tt, (tt, (same p.1 q.1 i, tt))))

-- Both listings are told; what the lent scratch list holds afterwards is not.
pub store_determined : DeterminedAs store-kinds.ps store-kinds.r store.Pre store.Post {C = λ κs a. List ℕ × List ℕ × List ℕ × List ℕ} (λ κs x. x)
    (λ κs a ws. (ws.1.0.starts.now, ws.1.0.entries.now, ws.1.1.0.starts.now, ws.1.1.0.entries.now))
store_determined κs a h x y ws vs p q =
    let columns = held_one _ _ _ _ _ _ _ p.0.held q.0.held in
    let rows = held_one _ _ _ _ _ _ _ p.1.held q.1.held in
    (refl, λ i. (columns.0 i, columns.1 i, rows.0 i, rows.1 i))
