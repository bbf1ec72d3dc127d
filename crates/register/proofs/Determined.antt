-- No two replies satisfy the statement of a function for one input. Rests on specs/Checks.antt, specs/Lent.antt, `pattern`
-- and `listing`.
use mathlib.Core.List.{List, [], ◌∷◌}
use mathlib.Core.Path.{◌≡◌, refl, sym, ap, ◌∙◌}
use Prim.Native.Nat.{ℕ, ◌≤◌, ◌<◌}
use native.Mathlib.Omega.{arith}
use lib.ListN.{get_or, take}
use lib.Seq.{ext_get_or, get_or-take, length-take-le}
use Rattle.std.specs.Prelude.{Result, Ok, Err}
use Rattle.pattern.proofs.Rungs.{unless_one}
use Rattle.listing.specs.Contract.{Determined, DeterminedAs}
use Rattle.listing.specs.Limits.{max_size}
use Rattle.listing.specs.Listing.{between}
use Rattle.listing.specs.Look.{Spans, Looked}
use Rattle.listing.proofs.Answers.{says_same}
use Rattle.listing.proofs.Determined.{same, spans_one}
use Rattle.register.specs.Checks.{FirstFault}
use Rattle.register.specs.Lent.{Lists, Fresh}
use Rattle.register.specs.Loan.{seen}
use Rattle.register.specs.Marks.{unmarked}
use Rattle.register.specs.Order.{Placed}
use Rattle.register.specs.Reply.{number, fault}
use Rattle.register.specs.Start.{Started, started, StartsWith}
use Rattle.register.specs.declared.Refusal.{Refusal}
use Rattle.register.specs.declared.Refusal.TheVariants.{Size, ShortList, MalformedListing, ListingsDiffer, OrderUnsound, ColumnNumber, NewColumn, NoRoom, SheetCut, SheetNumber, SheetRange, SheetSurplus}
use Rattle.register.specs.declared.marks.Marks.{Marks}
use Rattle.register.proofs.check.check.Kinds as checks-kinds
use Rattle.register.proofs.check.check.Reads as checks
use Rattle.register.proofs.lent.LentMut.view.Kinds as view-kinds
use Rattle.register.proofs.lent.LentMut.view.Reads as view
use Rattle.register.proofs.marks.Marks.none.Kinds as none-kinds
use Rattle.register.proofs.marks.Marks.none.Reads as none
use Rattle.register.proofs.places.place_all.Kinds as place-all-kinds
use Rattle.register.proofs.places.place_all.Reads as place-all
use Rattle.register.proofs.places.top_place.Kinds as top-place-kinds
use Rattle.register.proofs.places.top_place.Reads as top_place
use Rattle.register.proofs.room.takes.Kinds as takes-kinds
use Rattle.register.proofs.room.takes.Reads as takes

-- ---- The reply of a number

-- In the order of their numbers.
replies : List (Result Unit Refusal)
replies =
    Ok tt
    ∷ Err Size
    ∷ Err ShortList
    ∷ Err MalformedListing
    ∷ Err ListingsDiffer
    ∷ Err OrderUnsound
    ∷ Err ColumnNumber
    ∷ Err NewColumn
    ∷ Err NoRoom
    ∷ Err SheetCut
    ∷ Err SheetNumber
    ∷ Err SheetRange
    ∷ Err SheetSurplus
    ∷ []

pub reply_of : ℕ → Result Unit Refusal
reply_of n = get_or replies n (Ok tt)

pub reply_back : (r : Result Unit Refusal) → reply_of (fault r) ≡ r
unfolding replies reply_of
reply_back (Ok x) = refl
reply_back (Err Size) = refl
reply_back (Err ShortList) = refl
reply_back (Err MalformedListing) = refl
reply_back (Err ListingsDiffer) = refl
reply_back (Err OrderUnsound) = refl
reply_back (Err ColumnNumber) = refl
reply_back (Err NewColumn) = refl
reply_back (Err NoRoom) = refl
reply_back (Err SheetCut) = refl
reply_back (Err SheetNumber) = refl
reply_back (Err SheetRange) = refl
reply_back (Err SheetSurplus) = refl

-- No two refusals have one number.
pub refusal_one : (r r' : Refusal) → number r ≡ number r' → r ≡ r'
refusal_one r r' e = cc (sym (reply_back (Err r)) ∙ ap reply_of e ∙ reply_back (Err r'))

-- ---- The public functions

pub number_determined : (r : Refusal) (n n' : ℕ) → n ≡ number r → n' ≡ number r → n ≡ n'
number_determined r n n' = same

pub empty_marks_determined : (k k' : Marks) → k ≡ unmarked → k' ≡ unmarked → k ≡ k'
empty_marks_determined k k' = same

pub fresh_order_determined : (l l' : List ℕ) → Fresh l → Fresh l' → l ≡ l'
fresh_order_determined l l' f f' = ext_get_or 0 l l' (same f.long f'.long) (λ t h. same (f.own t (omega (arith, f.long))) (f'.own t (omega (arith, f.long))))

-- A register has one first fault.
pub fault_one : (m : ℕ) (l : Lists) (n n' : ℕ) → FirstFault m l n → FirstFault m l n' → n ≡ n'
fault_one m l = unless_one (λ _. unless_one (λ _. unless_one (λ _. unless_one (λ _. unless_one (λ _ n n'. same)))))

pub check_determined : (m : ℕ) (l : Lists) (r r' : Result Unit Refusal) → FirstFault m l (fault r) → FirstFault m l (fault r') → r ≡ r'
check_determined m l r r' f f' = sym (reply_back r) ∙ ap reply_of (fault_one m l (fault r) (fault r') f f') ∙ reply_back r'

-- A start has one outcome.
pub started_one : (m : ℕ) (l : Lists) (o o' : Started) → StartsWith m l o → StartsWith m l o' → o ≡ o'
started_one m l = unless_one (λ _. unless_one (λ _. unless_one (λ _. unless_one (λ _ o o'. same))))

pub start_determined : (m : ℕ) (l : Lists) (r r' : Result Unit Refusal) (k k' : Lists) → StartsWith m l (started (fault r) k) → StartsWith m l (started (fault r') k')
    → (r ≡ r') × (k ≡ k')
start_determined m l r r' k k' f f' =
    let o = started_one m l (started (fault r) k) (started (fault r') k') f f' in
    (sym (reply_back r) ∙ ap (λ (o : Started). reply_of o.fault) o ∙ reply_back r', ap (λ (o : Started). o.lists) o)

-- A look's part has one beginning and one end.
pub span_determined : (m c : ℕ) (starts rows : List ℕ) (s s' : ℕ × ℕ) → Spans m c starts rows s → Spans m c starts rows s' → s ≡ s'
span_determined = spans_one

pub look_determined : (m c : ℕ) (starts rows p p' : List ℕ) → Looked m c starts rows p → Looked m c starts rows p' → p ≡ p'
look_determined m c starts rows p p' f f' =
    let e = span_determined m c starts rows (f.from, f.to) (f'.from, f'.to) f.spans f'.spans in
    f.taken ∙ ap (λ (s : ℕ × ℕ). between s.0 s.1 rows) e ∙ sym f'.taken

-- ---- Inner functions

pub none_determined : Determined none-kinds.ps none-kinds.r none.Pre none.Post
none_determined κs a h x y ws vs p q = (same p q, refl)

pub view_determined : DeterminedAs view-kinds.ps view-kinds.r view.Pre view.Post (λ κs r. seen r) (λ κs a ws. ws)
view_determined κs a h x y ws vs p q = (same p q, refl)

pub top_place_determined : Determined top-place-kinds.ps top-place-kinds.r top_place.Pre top_place.Post
top_place_determined κs a h x y ws vs p q = (same p q, refl)

pub takes_determined : Determined takes-kinds.ps takes-kinds.r takes.Pre takes.Post
takes_determined κs a h x y ws vs p q = (says_same x y p q, refl)

-- The reply is told; what the scratch lists hold after a refusal is not.
pub checks_determined : DeterminedAs checks-kinds.ps checks-kinds.r checks.Pre checks.Post (λ κs x. x) (λ κs a ws. tt {0})
checks_determined κs a h x y ws vs p q = (check_determined _ _ x y p.0 q.0, refl)

-- The places of the numbers below m are told; what the scratch list holds past them is not.
placed_one : (m : ℕ) (f : ℕ → ℕ) (l l' : List ℕ) → m ≤ max_size → Placed m f l → Placed m f l' → take m l ≡ take m l'
placed_one m f l l' few p q =
    ext_get_or 0 (take m l) (take m l') (same (length-take-le m l (omega (arith, p.long))) (length-take-le m l' (omega (arith, q.long))))
    (λ x h.
    let u : x < m = omega (arith, length-take-le m l (omega (arith, p.long))) in
    get_or-take m l x 0 u ∙ same (p.stand x u) (q.stand x u) ∙ sym (get_or-take m l' x 0 u))

pub place_all_determined : DeterminedAs place-all-kinds.ps place-all-kinds.r place-all.Pre place-all.Post (λ κs x. x) (λ κs a ws. take a.0 ws.1.1.0)
place_all_determined κs a h x y ws vs p q = (refl, placed_one _ _ _ _ h.0 p q)
