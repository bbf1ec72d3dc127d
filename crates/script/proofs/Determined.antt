-- No two replies, with what they leave, satisfy the statement of a public function for one input. Rests on Feeding.antt and `pattern`.
use mathlib.Core.Bool.{Bool}
use mathlib.Core.List.{List}
use mathlib.Core.Path.{◌≡◌, sym, ap, ap₂, ◌∙◌, subst}
use Prim.Native.Nat.{ℕ, ◌<◌}
use native.Mathlib.Decide.{dec_lt}
use native.Mathlib.Omega.{arith}
use lib.ListN.{length, take}
use Rattle.pattern.proofs.Rungs.{unless_one}
use Rattle.listing.specs.Held.{over}
use Rattle.turns.specs.Turns.{Lent, Run, run, begun, After}
use Rattle.turns.specs.declared.State.{State}
use Rattle.turns.proofs.OneLine.{equal_one}
use Rattle.script.specs.Feed.{TakesBytes, FedOut, fed_out, Feeds, Finishes}
use Rattle.script.specs.Tryout.{has_ended, Fed}
use Rattle.script.specs.declared.Fed as declared
use Rattle.script.proofs.Feeding.{fed_one}

pub begin_determined : (s s' : State) → s ≡ begun → s' ≡ begun → s ≡ s'
begin_determined = equal_one

pub ended_determined : (s : State) (a b : Bool) → a ≡ has_ended s → b ≡ has_ended s → a ≡ b
ended_determined s = equal_one

pub finish_determined : (s : State) (out : List ℕ) (o o' : ℕ × List ℕ) → Finishes s out o → Finishes s out o' → o ≡ o'
finish_determined s out = unless_one (λ _. equal_one)

-- ---- Bytes fed

module _ {r : Run} {chunk : List ℕ} {room : ℕ} where
  -- Of two calls neither takes fewer bytes.
  not_fewer : {t t' : ℕ} {a a' : After} → TakesBytes r chunk room t a → TakesBytes r chunk room t' a' → ¬ (t < t')
  not_fewer {t} {t'} {a} {a'} f g h = f.stops (omega (arith, g.within)) (g.on t h a f.fed)

  takes_one : {t t' : ℕ} {a a' : After} → TakesBytes r chunk room t a → TakesBytes r chunk room t' a' → (t ≡ t') × (a ≡ a')
  takes_one {t} {t'} {a} {a'} f g = (e, fed_one (take t' chunk) r a a' (subst (λ (n : ℕ). Fed r (take n chunk) a) e f.fed) g.fed)
    where
      from : Dec (t < t') → Dec (t' < t) → t ≡ t'
      from (yes u) d = absurd (not_fewer f g u)
      from (no u) (yes v) = absurd (not_fewer g f v)
      from (no u) (no v) = omega arith

      e : t ≡ t'
      e = from (dec_lt t t') (dec_lt t' t)

pub fed_out_one : (r : Run) (chunk out : List ℕ) (o o' : FedOut) → Feeds r chunk out o → Feeds r chunk out o' → o ≡ o'
fed_out_one r chunk out =
    unless_one (λ _ o o' x y.
    let e = takes_one x.1 y.1 in
    x.2 ∙ ap₂ (λ (t : ℕ) (a : After). fed_out a.run t (length a.said) (over a.said out)) e.0 e.1 ∙ sym y.2)

-- The code's own reply, and the lists.
pub feed_determined : (r : Run) (chunk out : List ℕ) (f f' : declared.Fed) (l l' : Lent) (b b' : List ℕ)
    → Feeds r chunk out (fed_out (run f.state l) f.taken f.written b) → Feeds r chunk out (fed_out (run f'.state l') f'.taken f'.written b')
    → (f ≡ f') × (l ≡ l') × (b ≡ b')
feed_determined r chunk out f f' l l' b b' x y =
    let o = fed_out_one r chunk out (fed_out (run f.state l) f.taken f.written b) (fed_out (run f'.state l') f'.taken f'.written b') x y in
    (ap reply o, ap (λ (o : FedOut). o.run.lent) o, ap (λ (o : FedOut). o.out) o)
  where
    reply : FedOut → declared.Fed
    reply o = record { state = o.run.state; taken = o.taken; written = o.written }
