-- Sound registers in two sixes of lists that hold the same, beyond which the lists may differ. Rests on Heads.antt, `pattern`,
-- `listing` and `register`.
use mathlib.Core.List.{List}
use mathlib.Core.Path.{◌≡◌, sym, ap₂, ◌∙◌}
use Prim.Native.Nat.{ℕ, ◌≤◌}
use lib.ListN.{length, take}
use Rattle.pattern.specs.Flat.{start_of}
use Rattle.pattern.specs.Places.{at}
use Rattle.pattern.specs.Order.{pairs}
use Rattle.pattern.proofs.Each.{each_same}
use Rattle.pattern.proofs.Turning.{Columns}
use Rattle.listing.specs.Limits.{Sized, max_total}
use Rattle.register.specs.Takes.{Takes, holding}
use Rattle.register.specs.Lent.{Lists, columns, SoundLists}
use Rattle.register.proofs.Holdings.{columns_back}
use Rattle.script.proofs.Heads.{head_at, over_same}

-- The same columns, and the same order.
pub record HoldsSame (m : ℕ) (l l' : Lists) : Type 0 where
  pub same_columns : columns m l ≡ columns m l'
  pub same_rows : take m l.order_rows ≡ take m l'.order_rows
  pub same_cols : take m l.order_cols ≡ take m l'.order_cols

pub record RegistersAgree (m : ℕ) (l l' : Lists) : Type 0 where
  pub sound : SoundLists m l
  pub sound' : SoundLists m l'
  pub same : HoldsSame m l l'

-- Lists that hold one register hold the same.
pub holding_same : {m : ℕ} {P : List (List ℕ)} {l l' : Lists} → Sized m → Columns m P → start_of P m ≤ max_total → Takes m (start_of P m) l → Takes m (start_of P m) l'
    → (p q : List ℕ) → length p ≡ m → length q ≡ m → HoldsSame m (holding m P p q l) (holding m P p q l')
holding_same {l = l} {l'} sized C few T T' p q np nq =
    record {
      same_columns = columns_back sized C few T ∙ sym (columns_back sized C few T');
      same_rows = over_same p l.order_rows l'.order_rows np;
      same_cols = over_same q l.order_cols l'.order_cols nq;
    }

-- The order's pairs are the same.
pub pairs_same : {m : ℕ} {l l' : Lists} → HoldsSame m l l' → pairs m l.order_rows l.order_cols ≡ pairs m l'.order_rows l'.order_cols
pairs_same {m} {l} {l'} S =
    each_same (λ t. (at l.order_rows t, at l.order_cols t)) (λ t. (at l'.order_rows t, at l'.order_cols t)) m
    (λ t h. ap₂ (λ (r c : ℕ). (r, c)) (head_at m l.order_rows l'.order_rows S.same_rows t h) (head_at m l.order_cols l'.order_cols S.same_cols t h))
