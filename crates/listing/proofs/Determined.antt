-- No two outcomes satisfy the contract of a function, as its source states it. Rests on specs/Contract.antt, Answers.antt and
-- `pattern`.
use mathlib.Core.List.{List}
use mathlib.Core.Path.{◌≡◌, refl, sym, ap, ◌∙◌}
use Prim.Native.Nat.{ℕ}
use Rattle.pattern.proofs.Rungs.{unless_one}
use Rattle.listing.specs.Contract.{Determined, DeterminedAs}
use Rattle.listing.specs.Held.{Held}
use Rattle.listing.specs.Look.{Spans}
use Rattle.listing.specs.declared.listing.Listed.{Listed}
use Rattle.listing.proofs.Answers.{says_same}
use Rattle.listing.proofs.formed.Formed.part.Kinds as formed-part-kinds
use Rattle.listing.proofs.formed.Formed.part.Reads as formed-part
use Rattle.listing.proofs.listed_mut.ListedMut.view.Kinds as view-kinds
use Rattle.listing.proofs.listed_mut.ListedMut.view.Reads as view
use Rattle.listing.proofs.listing.Listed.formed.Kinds as formed-kinds
use Rattle.listing.proofs.listing.Listed.formed.Reads as formed
use Rattle.listing.proofs.listing.Listed.part.Kinds as listed-part-kinds
use Rattle.listing.proofs.listing.Listed.part.Reads as listed-part
use Rattle.listing.proofs.listing.part.Kinds as part-kinds
use Rattle.listing.proofs.listing.part.Reads as part
use Rattle.listing.proofs.listing.Listed.parts_rise.Kinds as parts-rise-kinds
use Rattle.listing.proofs.listing.Listed.parts_rise.Reads as parts-rise
use Rattle.listing.proofs.listing.rising.Kinds as rising-kinds
use Rattle.listing.proofs.listing.rising.Reads as rising
use Rattle.listing.proofs.listing.Listed.starts_right.Kinds as starts-right-kinds
use Rattle.listing.proofs.listing.Listed.starts_right.Reads as starts_right
use Rattle.listing.proofs.lists.copy.Kinds as copy-kinds
use Rattle.listing.proofs.lists.copy.Reads as copy
use Rattle.listing.proofs.lists.first.Kinds as first-kinds
use Rattle.listing.proofs.lists.first.Reads as first
use Rattle.listing.proofs.look.sight.Kinds as sight-kinds
use Rattle.listing.proofs.look.sight.Reads as sight
use Rattle.listing.proofs.turn.turn.Kinds as turn-kinds
use Rattle.listing.proofs.turn.turn.Reads as turn
use Rattle.listing.proofs.wide.wide.Kinds as wide-kinds
use Rattle.listing.proofs.wide.wide.Reads as wide

-- A statement that gives its reply by an equation has one.
pub same : {A : Type 0} {x y z : A} → x ≡ z → y ≡ z → x ≡ y
same e f = e ∙ sym f

-- ---- Numbers and parts

pub wide_determined : Determined wide-kinds.ps wide-kinds.r wide.Pre wide.Post
wide_determined κs a h x y ws vs p q = (same p q, refl)

pub part_determined : DeterminedAs part-kinds.ps part-kinds.r part.Pre part.Post (λ κs r. r.now) (λ κs a ws. ws)
part_determined κs a h x y ws vs p q = (same p q, refl)

pub listed_part_determined : DeterminedAs listed-part-kinds.ps listed-part-kinds.r listed-part.Pre listed-part.Post (λ κs r. r.now) (λ κs a ws. ws)
listed_part_determined κs a h x y ws vs p q = (same p q, refl)

pub formed_part_determined : DeterminedAs formed-part-kinds.ps formed-part-kinds.r formed-part.Pre formed-part.Post (λ κs r. r.now) (λ κs a ws. ws)
formed_part_determined κs a h x y ws vs p q = (same p q, refl)

-- What stands in the two lists of a listing.
abbrev both : Listed → List ℕ × List ℕ
both r = (r.starts.now, r.entries.now)

pub view_determined : DeterminedAs view-kinds.ps view-kinds.r view.Pre view.Post (λ κs r. both r) (λ κs a ws. ws)
view_determined κs a h x y ws vs p q = (λ i. (same p.0 q.0 i, same p.1 q.1 i), refl)

pub first_determined : DeterminedAs first-kinds.ps first-kinds.r first.Pre first.Post (λ κs r. r.now) (λ κs a ws. ws)
first_determined κs a h x y ws vs p q = (same p q, refl)

pub copy_determined : Determined copy-kinds.ps copy-kinds.r copy.Pre copy.Post
copy_determined κs a h x y ws vs p q = (refl, λ i. (tt, (tt, (same p q i, tt))))

-- ---- Tests

pub rising_determined : Determined rising-kinds.ps rising-kinds.r rising.Pre rising.Post
rising_determined κs a h x y ws vs p q = (says_same x y p q, refl)

pub starts_right_determined : Determined starts-right-kinds.ps starts-right-kinds.r starts_right.Pre starts_right.Post
starts_right_determined κs a h x y ws vs p q = (says_same x y p q, refl)

pub parts_rise_determined : Determined parts-rise-kinds.ps parts-rise-kinds.r parts-rise.Pre parts-rise.Post
parts_rise_determined κs a h x y ws vs p q = (says_same x y p q, refl)

pub formed_determined : Determined formed-kinds.ps formed-kinds.r formed.Pre formed.Post
formed_determined κs a h x y ws vs p q = (says_same x y p q, refl)

-- ---- A look's places

pub spans_one : (m c : ℕ) (starts rows : List ℕ) (s s' : ℕ × ℕ) → Spans m c starts rows s → Spans m c starts rows s' → s ≡ s'
spans_one m c starts rows = unless_one (λ _ s s'. same)

pub sight_determined : Determined sight-kinds.ps sight-kinds.r sight.Pre sight.Post
sight_determined κs a h x y ws vs p q = (ap (λ (s : ℕ × ℕ). record { from = s.0; to = s.1 }) (spans_one _ _ _ _ _ _ p q), refl)

-- ---- A listing turned

-- Lists that hold a listing are one thing.
pub held_one : (P : List (List ℕ)) (s e s₁ e₁ s₂ e₂ : List ℕ) → Held P s e s₁ e₁ → Held P s e s₂ e₂ → (s₁ ≡ s₂) × (e₁ ≡ e₂)
held_one P s e s₁ e₁ s₂ e₂ f f' = (same f.starts_after f'.starts_after, same f.entries_after f'.entries_after)

pub turn_determined : Determined turn-kinds.ps turn-kinds.r turn.Pre turn.Post
turn_determined κs a h x y ws vs p q =
    let o = held_one _ _ _ _ _ _ _ p q in
    (refl, λ i. (tt, (o.0 i, (o.1 i, tt))))
