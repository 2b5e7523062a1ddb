use Rattle.std.proofs.Common.{◌≡◌, ℕ, suc, ◌+◌, ◌-◌, ◌<◌, ◌≤◌, Bool, true, false, ltb, ◌||◌, List, [], length, get_or, refl, sym, ap, ◌∙◌, arith, Some}
use Rattle.std.specs.Prelude.{slice_get}
use Rattle.std.specs.List.{list_any, range_with_len}
use Rattle.ts_mux.specs.Services.{listed}
use Rattle.ts_mux.proofs.Numbers.{item_is}
use Rattle.ts_mux.proofs.services.goes_on.Goals as goal

-- the next version is asked
any_next : (p : ℕ → Bool) (i n : ℕ) → i < n → list_any p (range_with_len i (n - i)) ≡ (p i || list_any p (range_with_len (i + 1) (n - (i + 1))))
any_next p i n less = let size : n - i ≡ suc (n - (i + 1)) = omega (arith, less) in ap (λ (m : ℕ). list_any p (range_with_len i m)) size

test_there : (lists : List (List (List (List ℕ)))) (version at later k n : ℕ) (list : List (List ℕ)) → at ≡ later → slice_get (get_or lists at []) k ≡ Some list → n ≡ length list → ltb 0 (length (listed lists later k)) ≡ ltb 0 n
test_there lists version at later k n list same there size =
    ap (λ (v : ℕ). ltb 0 (length (listed lists v k))) (sym same) ∙ ap (λ (l : List (List ℕ)). ltb 0 (length l)) (item_is (get_or lists at []) k list [] there) ∙ ap (ltb 0) (sym size)

no_more : (n : ℕ) → n ≤ 0 → ltb 0 n ≡ false
no_more n le = grind (arith, le)

more : (n : ℕ) → 0 < n → ltb 0 n ≡ true
more n less = grind (arith, less)

first_not : (a b : Bool) → a ≡ false → (a || b) ≡ b
first_not a b e = rw e refl

first_is : (a b : Bool) → a ≡ true → (a || b) ≡ true
first_is a b e = rw e refl

pub loop-later-preserved : goal.loop-later-preserved
loop-later-preserved c =
    let test : ℕ → Bool = λ later. ltb 0 (length (listed c.args.lists.now later c.args.k)) in
    let less : c.loop-later.later < length c.args.lists.now = omega (arith, c.loop-later-test.true, c.versions-later-end.ensures.read) in
    c.loop-later.invariant ∙ any_next test c.loop-later.later (length c.args.lists.now) less
    ∙ first_not (test c.loop-later.later) (list_any test (range_with_len (c.loop-later.later + 1) (length c.args.lists.now - (c.loop-later.later + 1))))
    (test_there c.args.lists.now 0 c.loop-later.later c.loop-later.later c.args.k c.len.result c.at.result.now refl c.at.ensures.read c.len.ensures.read ∙ no_more c.len.result c.if-len-gt0.false)

pub returns-then-len-gt0 : goal.returns-then-len-gt0
returns-then-len-gt0 c =
    let test : ℕ → Bool = λ later. ltb 0 (length (listed c.args.lists.now later c.args.k)) in
    let less : c.loop-later.later < length c.args.lists.now = omega (arith, c.loop-later-test.true, c.versions-later-end.ensures.read) in
    record {
      read = sym (c.loop-later.invariant ∙ any_next test c.loop-later.later (length c.args.lists.now) less
          ∙ first_is (test c.loop-later.later) (list_any test (range_with_len (c.loop-later.later + 1) (length c.args.lists.now - (c.loop-later.later + 1))))
          (test_there c.args.lists.now 0 c.loop-later.later c.loop-later.later c.args.k c.len.result c.at.result.now refl c.at.ensures.read c.len.ensures.read ∙ more c.len.result c.if-len-gt0.true));
    }
