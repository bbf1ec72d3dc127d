-- Bytes fed one after another: one more, some and others behind them, and that what comes of them is one thing. Rests on OneByte.antt.
use mathlib.Core.Bool.{Bool, true}
use mathlib.Core.List.{List, [], ◌∷◌, ◌++◌, append-nil, append_assoc}
use mathlib.Core.Path.{◌≡◌, refl, sym, ap, ap₂, ◌∙◌, subst}
use Prim.Native.Nat.{ℕ}
use lib.Dec.{eqb}
use Rattle.text.specs.Text.{LF, max_line}
use Rattle.turns.specs.Turns.{Run, After, after}
use Rattle.turns.proofs.OneLine.{One}
use Rattle.script.specs.Tryout.{has_ended, ByteDoes, Byte, Fed}
use Rattle.script.proofs.OneByte.{byte_one}

pub fed_none : (r : Run) → Fed r [] (after r [])
unfolding Fed
fed_none r = refl

-- Some, and others behind them.
pub fed_both : (xs ys : List ℕ) (r : Run) (a b : After) → Fed r xs a → Fed a.run ys b → Fed r (xs ++ ys) (after b.run (a.said ++ b.said))
unfolding Fed
fed_both [] ys r a b f g = subst (λ (a : After). Fed a.run ys b → Fed r ys (after b.run (a.said ++ b.said))) (sym f) (λ g. g) g
fed_both (x ∷ xs) ys r a b (u, d, v, f, e) g =
    (u, d, after b.run (v.said ++ b.said), fed_both xs ys u.run v b f (subst (λ (a : After). Fed a.run ys b) e g), ap (λ (a : After). after b.run (a.said ++ b.said)) e ∙ ap (after b.run) (append_assoc u.said v.said b.said))

pub fed_split : (xs ys : List ℕ) (r : Run) (a : After) → Fed r (xs ++ ys) a
    → (x : After) × Fed r xs x × (y : After) × Fed x.run ys y × (a ≡ after y.run (x.said ++ y.said))
unfolding Fed
fed_split [] ys r a f = (after r [], refl, a, f, refl)
fed_split (x ∷ xs) ys r a (u, d, v, f, e) =
    let s = fed_split xs ys u.run v f in (
      after s.0.run (u.said ++ s.0.said),
      (u, d, s.0, s.1, refl),
      s.2,
      s.3,
      e ∙ ap (λ (v : After). after v.run (u.said ++ v.said)) s.4 ∙ ap (after s.2.run) (sym (append_assoc u.said s.0.said s.2.said)),
    )

-- One more.
pub fed_more : (xs : List ℕ) (b : ℕ) (r : Run) (x y : After) → Fed r xs x → Byte x.run b y → Fed r (xs ++ (b ∷ [])) (after y.run (x.said ++ y.said))
unfolding Fed
fed_more xs b r x y f g = fed_both xs (b ∷ []) r x y f (y, g, after y.run [], refl, ap (after y.run) (sym (append-nil y.said)))

pub fed_one : (xs : List ℕ) (r : Run) → One (Fed r xs)
unfolding Fed
fed_one [] r a b f g = f ∙ sym g
fed_one (x ∷ xs) r a b (u, d, v, f, e) (u', d', v', f', e') =
    let p = byte_one r x u u' d d' in
    let q = fed_one xs u'.run v v' (subst (λ (u : After). Fed u.run xs v) p f) f' in
    e ∙ ap₂ (λ (u v : After). after v.run (u.said ++ v.said)) p q ∙ sym e'

-- Where the run has ended, nothing comes of them.
pub fed_ended : (xs : List ℕ) (r : Run) → has_ended r.state ≡ true → Fed r xs (after r [])
unfolding Fed
fed_ended [] r e = refl
fed_ended (x ∷ xs) r e =
    (after r [], subst (λ (h : Bool). ByteDoes h (eqb x LF) (eqb r.state.used max_line) r x (after r [])) (sym e) refl, after r [], fed_ended xs r e, refl)
