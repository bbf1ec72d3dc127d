-- No two outcomes satisfy the contract of a function for the crates above, as its source states it. Rests on specs/Heard.antt,
-- specs/Prints.antt, Speaking.antt and `listing`.
use mathlib.Core.List.{List}
use mathlib.Core.Path.{◌≡◌, refl, sym, ap, ◌∙◌}
use Prim.Native.Nat.{ℕ}
use lib.ListN.{length}
use Rattle.pattern.specs.Places.{at}
use Rattle.std.specs.Prelude.{Option, Some, None}
use Rattle.listing.specs.Contract.{Determined, DeterminedAs}
use Rattle.listing.proofs.Determined.{same}
use Rattle.text.specs.Heard.{Hears}
use Rattle.text.specs.Prints.{Prints}
use Rattle.text.specs.Puts.{Puts}
use Rattle.text.specs.declared.lines.Heard.{Heard}
use Rattle.text.specs.declared.output.Output.{Output}
use Rattle.text.proofs.Speaking.{speaks_one}
use Rattle.text.proofs.lines.hear.Kinds as hear-kinds
use Rattle.text.proofs.lines.hear.Reads as hear
use Rattle.text.proofs.lines.keep.Kinds as keep-kinds
use Rattle.text.proofs.lines.keep.Reads as keep
use Rattle.text.proofs.output.Output.word.Kinds as word-kinds
use Rattle.text.proofs.output.Output.word.Reads as word
use Rattle.text.proofs.output.Output.byte.Kinds as byte-kinds
use Rattle.text.proofs.output.Output.byte.Reads as byte
use Rattle.text.proofs.output.Output.number.Kinds as number-kinds
use Rattle.text.proofs.output.Output.number.Reads as number
use Rattle.text.proofs.output.Output.spaced.Kinds as spaced-kinds
use Rattle.text.proofs.output.Output.spaced.Reads as spaced
use Rattle.text.proofs.output.Output.numbers.Kinds as numbers-kinds
use Rattle.text.proofs.output.Output.numbers.Reads as numbers

-- ---- Lines

hears_one : (word line : List ℕ) (x y : Option Heard) → Hears word line x → Hears word line y → x ≡ y
hears_one word line (Some x) (Some y) (l, s, a, b) (l', s', a', b') =
    let e = speaks_one s s' in
    let first : x.first ≡ y.first = a ∙ ap (λ (l : List ℕ). at l 0) e ∙ sym a' in
    let count : x.count ≡ y.count = b ∙ ap length e ∙ sym b' in
    λ i. Some (record { first = first i; count = count i })
hears_one word line (Some x) None (l, s, a, b) none = absurd (none (l, s))
hears_one word line None (Some y) none (l, s, a, b) = absurd (none (l, s))
hears_one word line None None p q = refl

pub hear_determined : Determined hear-kinds.ps hear-kinds.r hear.Pre hear.Post
hear_determined κs a h x y ws vs p q = (hears_one _ _ x y p q, refl)

pub keep_determined : Determined keep-kinds.ps keep-kinds.r keep.Pre keep.Post
keep_determined κs a h x y ws vs p q = (refl, λ i. (tt, (tt, (same (p h.2.0 h.2.1) (q h.2.0 h.2.1) i, tt))))

-- ---- Bytes put at a place, and printed

pub puts_one : {place next next' : ℕ} {l old new new' : List ℕ} → Puts place l old next new → Puts place l old next' new' → (next ≡ next') × (new ≡ new')
puts_one p q = (same p.after q.after, same p.stand q.stand)

-- What is seen of an output: how much has been printed, and the list.
abbrev pub printed : Output → ℕ × List ℕ
printed out = (out.len, out.bytes.now)

pub prints_one : {text : List ℕ} {old new new' : Output} → Prints text old new → Prints text old new' → printed new ≡ printed new'
prints_one p q = let o = puts_one p.puts q.puts in λ i. (o.0 i, o.1 i)

pub word_determined : DeterminedAs word-kinds.ps word-kinds.r word.Pre word.Post (λ κs x. x) (λ κs a ws. printed ws.0)
word_determined κs a h x y ws vs p q = (refl, prints_one p q)

pub byte_determined : DeterminedAs byte-kinds.ps byte-kinds.r byte.Pre byte.Post (λ κs x. x) (λ κs a ws. printed ws.0)
byte_determined κs a h x y ws vs p q = (refl, prints_one p q)

pub number_determined : DeterminedAs number-kinds.ps number-kinds.r number.Pre number.Post (λ κs x. x) (λ κs a ws. printed ws.0)
number_determined κs a h x y ws vs p q = (refl, prints_one p q)

pub spaced_determined : DeterminedAs spaced-kinds.ps spaced-kinds.r spaced.Pre spaced.Post (λ κs x. x) (λ κs a ws. printed ws.0)
spaced_determined κs a h x y ws vs p q = (refl, prints_one p q)

pub numbers_determined : DeterminedAs numbers-kinds.ps numbers-kinds.r numbers.Pre numbers.Post (λ κs x. x) (λ κs a ws. printed ws.0)
numbers_determined κs a h x y ws vs p q = (refl, prints_one p q)
