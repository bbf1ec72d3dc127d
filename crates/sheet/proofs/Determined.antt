-- No two replies, with what they leave, satisfy the statement of a public function for one input. Rests on `pattern`, `listing`
-- and `register`.
use mathlib.Core.List.{List}
use mathlib.Core.Path.{◌≡◌, sym, ap, ◌∙◌}
use Prim.Native.Nat.{ℕ}
use native.Mathlib.Omega.{arith}
use Rattle.std.specs.Prelude.{Result, Ok, Err}
use Rattle.pattern.proofs.Rungs.{unless_one}
use Rattle.listing.proofs.Answers.{says_same}
use Rattle.register.specs.Lent.{Lists}
use Rattle.register.proofs.Determined.{refusal_one}
use Rattle.sheet.specs.Number.{Read, got, bad}
use Rattle.sheet.specs.Reading.{record_read}
use Rattle.sheet.specs.Reads.{Finds, Examines, ReadIn, read_in, ReadsAs, Reads}
use Rattle.sheet.specs.Reply.{written, filled, Finding, found, finding}
use Rattle.sheet.specs.Sheet.{Record, total}
use Rattle.sheet.specs.Writes.{WrittenOut, written_out, Writes}
use Rattle.register.specs.declared.Refusal.{Refusal}
use Rattle.sheet.specs.declared.Examined.{Examined}
use Rattle.sheet.specs.declared.Fault.{Fault}

-- ---- No two answers say the same

apart : {A : Type 0} → ◌≡◌ {A = ℕ} 0 1 → A
apart e = absurd (omega arith)

reply_same : (r r' : Result ℕ Refusal) → written r ≡ written r' → r ≡ r'
reply_same (Err a) (Err b) e = cc (refusal_one a b (cc e))
reply_same (Err a) (Ok n) e = apart (cc e)
reply_same (Ok n) (Err a) e = apart (cc e)
reply_same (Ok n) (Ok k) e = cc e

finding_same : (r r' : Result Examined Fault) → finding r ≡ finding r' → r ≡ r'
finding_same (Err f) (Err g) e =
    let reply : f.reply ≡ g.reply = refusal_one f.reply g.reply (cc e) in
    let place : f.place ≡ g.place = cc e in
    λ i. Err (record { reply = reply i; place = place i })
finding_same (Err f) (Ok x) e = apart (cc e)
finding_same (Ok x) (Err f) e = apart (cc e)
finding_same (Ok x) (Ok y) e =
    let size : x.size ≡ y.size = cc e in
    let total : x.total ≡ y.total = cc e in
    let sound : x.sound ≡ y.sound = cc e in
    λ i. Ok (record { size = size i; total = total i; sound = sound i })

-- ---- The writer

pub written_one : (m : ℕ) (l : Lists) (bytes : List ℕ) (o o' : WrittenOut) → Writes m l bytes o → Writes m l bytes o' → o ≡ o'
written_one m l bytes =
    unless_one (λ _. unless_one (λ _. unless_one (λ _. unless_one (λ _. unless_one (λ _. unless_one (λ _ o o' e e'. e ∙ sym e'))))))

pub write_sheet_determined : (m : ℕ) (l : Lists) (bytes : List ℕ) (r r' : Result ℕ Refusal) (b b' : List ℕ) → Writes m l bytes (written_out (written r) b)
    → Writes m l bytes (written_out (written r') b') → (r ≡ r') × (b ≡ b')
write_sheet_determined m l bytes r r' b b' f f' =
    let o = written_one m l bytes (written_out (written r) b) (written_out (written r') b') f f' in
    (reply_same r r' (ap (λ (o : WrittenOut). o.reply) o), ap (λ (o : WrittenOut). o.bytes) o)

-- ---- The part that decides

finds_one : (r : Read Record) (f f' : Finding) → Finds r f → Finds r f' → f ≡ f'
finds_one (bad n p) f f' a b = a ∙ sym b
finds_one (got x end) f f' a b = a.2 ∙ ap (found x.size (total x)) (says_same a.0 b.0 a.1 b.1) ∙ sym b.2

pub examine_determined : (bytes : List ℕ) (r r' : Result Examined Fault) → Examines bytes (finding r) → Examines bytes (finding r') → r ≡ r'
examine_determined bytes r r' f f' = finding_same r r' (finds_one (record_read bytes) (finding r) (finding r') f f')

-- A fault where its place is not asked for.
pub from_determined : (fault : Fault) (r r' : Refusal) → r ≡ fault.reply → r' ≡ fault.reply → r ≡ r'
from_determined fault r r' e e' = e ∙ sym e'

-- ---- The reader

reads_one : (l : Lists) (r : Read Record) (o o' : ReadIn) → ReadsAs l r o → ReadsAs l r o' → o ≡ o'
reads_one l (bad n p) o o' a b = a ∙ sym b
reads_one l (got x end) o o' a b = unless_one (λ _. unless_one (λ _ o o' a b. a ∙ sym b)) o o' a b

pub read_one : (l : Lists) (bytes : List ℕ) (o o' : ReadIn) → Reads l bytes o → Reads l bytes o' → o ≡ o'
read_one l bytes = reads_one l (record_read bytes)

pub read_sheet_determined : (l : Lists) (bytes : List ℕ) (r r' : Result ℕ Refusal) (a a' : Lists) → Reads l bytes (read_in (filled r) a) → Reads l bytes (read_in (filled r') a')
    → (r ≡ r') × (a ≡ a')
read_sheet_determined l bytes r r' a a' f f' =
    let o = read_one l bytes (read_in (filled r) a) (read_in (filled r') a') f f' in
    (reply_same r r' (ap (λ (o : ReadIn). o.reply) o), ap (λ (o : ReadIn). o.lists) o)
