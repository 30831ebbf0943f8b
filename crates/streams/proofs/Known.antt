-- Of an input whose bytes are known, what came is its front.
use Rattle.folds.proofs.Ground.{ℕ, ◌+◌, ◌-◌, ◌≤◌, ◌<◌, ◌≡◌, refl, sym, ap, ap₂, ◌∙◌, List, [], ◌++◌, length, take, drop, arith, subst, take-add, take_at, drop_at, length-append, length-take-le}
use Rattle.std.specs.Prelude.{None, Some}
use Rattle.std.specs.Io.KnownBytes.{Consumes, IsAtEnd}
use Rattle.std.proofs.lemmas.Slice.{take-put_mid_below}
use Rattle.std.specs.declared.option.Option.{Option}
use borrow.Rule.Slice.PartMut.{put_mid, post_of}
use Rattle.std.proofs.lemmas.Bool.{cases_lt}
use lib.Seq.{take-append-le}
use Rattle.std.proofs.Common.{Fits, w8, append_assoc, append-nil}
use Rattle.folds.proofs.Ground.{get_or, get_or-take, inl, inr, take_all, drop_of_length-le, le-ltb, min}
use Rattle.folds.specs.Bytes.{number}
use Rattle.plan_layout.specs.Editions.{header_length}
use Rattle.plan_layout.specs.Layout.{length_said}
use Rattle.plan_layout.proofs.Laws.{length_field_said}
use Rattle.plan.specs.Reading.{plan_length}
use Rattle.streams.specs.Streams.{FirstPlan}
use Rattle.streams.proofs.Laws.{header_told}

-- what two reads gave, one after the other
pub consumed_both : (a b c : Option (List ℕ)) (xs ys : List ℕ) → Consumes a b xs → Consumes b c ys → Consumes a c (xs ++ ys)
consumed_both None b c xs ys p q = tt
consumed_both (Some x) None c xs ys p q = absurd p
consumed_both (Some x) (Some y) None xs ys p q = absurd q
consumed_both (Some x) (Some y) (Some z) xs ys p q = p ∙ ap (λ l. xs ++ l) q ∙ sym (append_assoc xs ys z)

pub consumed_none : (a : Option (List ℕ)) → Consumes a a []
consumed_none None = tt
consumed_none (Some x) = refl

-- n bytes put behind the first a
pub front_put : (a k n : ℕ) (xs ys : List ℕ) → a ≤ length xs → n ≤ length ys → take (a + n) (put_mid a k xs ys) ≡ take a xs ++ take n ys
front_put a k n xs ys h l =
    take-add a n (put_mid a k xs ys)
    ∙ ap₂ (λ (s t : List ℕ). s ++ take n t) (take-put_mid_below a k xs ys a (omega arith) h) (drop_at (take a xs) (ys ++ post_of a k xs) a (length-take-le a xs h))
    ∙ ap (λ l. take a xs ++ l) (take-append-le n ys (post_of a k xs) l)

-- two bytes tell a length below 65,536
pub said_low : (s : List ℕ) → get_or s 14 0 < 256 → get_or s 15 0 < 256 → length_said s < 65536
unfolding number
said_low s h l = rw (length_field_said s) (omega arith)

-- what stands behind a header does not change what that tells
pub told_front : (s t : List ℕ) → header_length ≤ length s → length_said (s ++ t) ≡ length_said s
told_front s t h =
    sym (header_told header_length (s ++ t) (omega arith)) ∙ ap length_said (take-append-le header_length s t h) ∙ header_told header_length s (omega arith)

-- how much of what has a header is plan
pub plan_told : (s : List ℕ) → header_length ≤ length s → plan_length s ≡ min (length_said s) (length s)
unfolding plan_length
plan_told s h = rw (le-ltb (length s) header_length h) refl

-- all that was left came, and is plan
pub all_first : (before now : Option (List ℕ)) (plan : List ℕ) → Consumes before now plan → IsAtEnd now → plan_length plan ≡ length plan → FirstPlan before now plan
all_first None now plan p e w = tt
all_first (Some xs) None plan p e w = absurd p
all_first (Some xs) (Some ys) plan p e w =
    let same : xs ≡ plan = p ∙ ap (λ l. plan ++ l) e ∙ append-nil plan in
    let long : plan_length xs ≡ length plan = ap plan_length same ∙ w in (
      sym (ap₂ take long same ∙ take_all (length plan) plan (omega arith)),
      λ h. ap Some (e ∙ sym (ap₂ drop long same ∙ drop_of_length-le plan (omega arith))),
    )

-- as much came as its header tells
pub told_first : (before now : Option (List ℕ)) (plan : List ℕ) → Consumes before now plan → header_length ≤ length plan → length_said plan ≡ length plan → FirstPlan before now plan
told_first None now plan p h w = tt
told_first (Some xs) None plan p h w = absurd p
told_first (Some xs) (Some ys) plan p h w =
    let more : length xs ≡ length plan + length ys = ap length p ∙ length-append plan ys in
    let said : length_said xs ≡ length plan = ap length_said p ∙ told_front plan ys h ∙ w in
    let long : plan_length xs ≡ length plan = plan_told xs (omega arith) ∙ omega arith in (
      sym (ap₂ take long p ∙ take_at plan ys (length plan) refl),
      λ k. ap Some (sym (ap₂ drop long p ∙ drop_at plan ys (length plan) refl)),
    )

-- the header came, and tells no more than its own bytes
pub short_first : (before now : Option (List ℕ)) (head : List ℕ) (n : ℕ) → Consumes before now head → length head ≡ header_length → length_said head ≡ n → n ≤ header_length
    → FirstPlan before now (take n head)
short_first None now head n p h w l = tt
short_first (Some xs) None head n p h w l = absurd p
short_first (Some xs) (Some ys) head n p h w l =
    let more : length xs ≡ length head + length ys = ap length p ∙ length-append head ys in
    let said : length_said xs ≡ n = ap length_said p ∙ told_front head ys (omega arith) ∙ w in
    let long : plan_length xs ≡ n = plan_told xs (omega arith) ∙ omega arith in (
      sym (ap₂ take long p ∙ take-append-le n head ys (omega arith)),
      λ k. let full : length head ≡ n = let len = length-take-le n head (omega arith) in omega arith in ap Some (sym (ap₂ drop long p ∙ drop_at head ys n full)),
    )

-- fewer bytes than a header has came to the front of a buffer
pub head_first : (before now : Option (List ℕ)) (b more : List ℕ) (r : ℕ) → r < length b → Consumes before now (take r b) → IsAtEnd now → plan_length (take r (b ++ more)) ≡ r
    → FirstPlan before now (take r (b ++ more))
head_first before now b more r h p e w =
    let front : take r (b ++ more) ≡ take r b = take-append-le r b more (omega arith) in
    subst (FirstPlan before now) (sym front)
    (all_first before now (take r b) p e (sym (ap plan_length front) ∙ w ∙ sym (length-take-le r b (omega arith))))

-- a header came to the front of a buffer, and tells no more than its own bytes
pub header_first : (before now : Option (List ℕ)) (b more : List ℕ) (n k : ℕ) → length b ≡ header_length → length b ≤ k → length (b ++ more) ≡ 65536 → Consumes before now (take k b)
    → n ≡ plan_length (b ++ more) → n ≤ header_length → FirstPlan before now (take n (b ++ more))
header_first before now b more n k h all long p w l =
    let told = plan_told (b ++ more) (omega arith) in
    let said : length_said b ≡ n = sym (told_front b more (omega arith)) ∙ omega arith in
    subst (FirstPlan before now) (sym (take-append-le n b more (omega arith)))
    (short_first before now b n (subst (Consumes before now) (take_all k b all) p) h said l)

-- the rest came behind a header
pub rest_first : (before mid now : Option (List ℕ)) (b more part : List ℕ) (n k r : ℕ) → length b ≡ header_length → length b ≤ k → length (b ++ more) ≡ 65536
    → ((i : ℕ) → Fits w8 (get_or (put_mid header_length (n - header_length) (b ++ more) part) i 0))
    → Consumes before mid (take k b) → Consumes mid now (take r part) → header_length < n → n ≡ plan_length (b ++ more) → length part ≡ n - header_length
    → r ≤ length part → (r < length part → IsAtEnd now)
    → plan_length (take (header_length + r) (put_mid header_length (n - header_length) (b ++ more) part)) ≡ header_length + r
    → FirstPlan before now (take (header_length + r) (put_mid header_length (n - header_length) (b ++ more) part))
rest_first before mid now b more part n k r h all long bytes p q l w s fits ended whole =
    let head : take header_length (b ++ more) ≡ b = take_at b more header_length h in
    let came : take (header_length + r) (put_mid header_length (n - header_length) (b ++ more) part) ≡ b ++ take r part =
    front_put header_length (n - header_length) r (b ++ more) part (omega arith) fits ∙ ap (λ l. l ++ take r part) head in
    let both : Consumes before now (b ++ take r part) = consumed_both before mid now b (take r part) (subst (Consumes before mid) (take_all k b all) p) q in
    let size : length (b ++ take r part) ≡ header_length + r = length-append b (take r part) ∙ ap₂ (λ (x y : ℕ). x + y) h (length-take-le r part fits) in
    let same : (i : ℕ) → i < header_length → get_or b i 0 ≡ get_or (put_mid header_length (n - header_length) (b ++ more) part) i 0 =
    λ i m. ap (λ l. get_or l i 0) (sym head ∙ sym (take-put_mid_below header_length (n - header_length) (b ++ more) part header_length (omega arith) (omega arith)))
    ∙ get_or-take header_length (put_mid header_length (n - header_length) (b ++ more) part) i 0 m in
    let low : length_said b < 65536 = said_low b (rw (same 14 (omega arith)) (omega (arith, bytes 14))) (rw (same 15 (omega arith)) (omega (arith, bytes 15))) in
    let told = plan_told (b ++ more) (omega arith) in
    let front = told_front b more (omega arith) in
    subst (FirstPlan before now) (sym came)
    (elim (cases_lt r (length part)) [
      | inl less ↦ all_first before now (b ++ take r part) both (ended less) (sym (ap plan_length came) ∙ whole ∙ sym size)
      | inr full ↦ told_first before now (b ++ take r part) both (omega arith) (told_front b (take r part) (omega arith) ∙ omega arith)
    ])
