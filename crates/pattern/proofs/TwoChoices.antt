-- A column is exchanged and two new rows are paired with reached columns: two full choices are left, and so no order is sound.
-- Rests on SomeChoice.antt and Peeling.antt.
use mathlib.Core.Logic.{◌≢◌}
use mathlib.Core.Path.{sym, ◌∙◌}
use Prim.Native.Nat.{ℕ, ◌<◌}
use Rattle.pattern.specs.Order.{Sound, Triangular, Paired}
use Rattle.pattern.specs.Pattern.{Pattern, RowsBelow, Spiked}
use Rattle.pattern.specs.Reach.{Reach}
use Rattle.pattern.proofs.Peeling.{one_choice}
use Rattle.pattern.proofs.SomeChoice.{reached_choice}

pub two_reached : {E E' : Pattern} {m c : ℕ} {row col : ℕ → ℕ} {New : ℕ → Type 0} → Sound E m row col → Spiked E E' c New → RowsBelow E' m → c < m
    → (x r : ℕ) → Reach E m row col c x → Paired m row col r x → New r
    → (y q : ℕ) → Reach E m row col c y → Paired m row col q y → New q
    → r ≢ q → ¬ Triangular E' m
two_reached {c = c} s w b h x r k p n y q k' p' n' apart t =
    let f = reached_choice s w h x r k p n in
    let g = reached_choice s w h y q k' p' n' in
    apart (sym f.2 ∙ one_choice b t.2 f.1 c h ∙ sym (one_choice b t.2 g.1 c h) ∙ g.2)
