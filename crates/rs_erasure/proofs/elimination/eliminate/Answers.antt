use Rattle.std.proofs.Common.{arith, ℕ, List, inl, inr, ◌≡◌, ◌<◌, ◌≤◌, ◌+◌, ◌-◌, ◌∙◌, ap, ap₂, drop, length, refl}
use Rattle.std.proofs.lemmas.Bool.{cases_lt}
use Rattle.erasure_law.specs.Roots.{combined, root_polynomial}
use Rattle.rs_erasure.specs.Columns.{cell}
use Rattle.rs_erasure.proofs.Runs.{roots_done, root_high, root_low}
use Rattle.rs_erasure.proofs.elimination.eliminate.Goals as goal

pub loop-left-init : goal.loop-left-init
loop-left-init c =
    let r = c.args.run in
    let some : c.args.done ≤ length c.args.roots.now = c.requires.some in
    record {
      is = λ syndromes i ge lt given j done low. given j done low ∙ roots_done c.args.roots.now syndromes c.args.done j some done;
      outside = λ j i low out. refl;
      within = omega arith;
    }

pub loop-left-preserved : goal.loop-left-preserved
loop-left-preserved c =
    let r = c.args.run in
    let roots : List ℕ = c.args.roots.now in
    let left : ℕ = c.loop-left.left - 1 in
    let e : c.loop-left.left ≡ left + 1 = omega arith in
    let within : c.loop-left.left + c.args.done ≤ length roots = c.loop-left.invariant.within in
    let lt : left < length roots = omega arith in
    let is = c.loop-left.invariant.is in
    record {
      is = λ syndromes i ge lo given j done low.
          let was : (k : ℕ) → c.args.done ≤ k → k < 64 → cell r.rows c.loop-left.work k i ≡ combined (root_polynomial (drop (left + 1 + (length roots - (left + 1) - k)) roots)) syndromes (k - (length roots - (left + 1))) =
          λ k from h. is syndromes i ge lo given k from h ∙ ap (λ n. combined (root_polynomial (drop (n + (length roots - n - k)) roots)) syndromes (k - (length roots - n))) e in
          elim (cases_lt j (length roots - left)) [
            | inl before ↦ c.eliminate_root.ensures.kept i ge lo j before ∙ root_low roots syndromes left j (cell r.rows c.loop-left.work j i) lt before (was j done low)
            | inr behind ↦
                c.eliminate_root.ensures.raised i ge lo j behind low
                ∙ root_high roots syndromes left j (cell r.rows c.loop-left.work j i) (cell r.rows c.loop-left.work (j - 1) i) lt behind (was j done low) (was (j - 1) (omega arith) (omega arith))
          ];
      outside = λ j i low out. c.eliminate_root.ensures.outside j i low out ∙ c.loop-left.invariant.outside j i low out;
      within = omega arith;
    }

pub returns-clause-eliminated : goal.returns-clause-eliminated
returns-clause-eliminated c = λ syndromes r ge lt given j done low.
    let roots : List ℕ = c.args.roots.now in
    let left : ℕ = c.loop-left.left in
    let end : left ≡ 0 = omega (arith, c.loop-left-test.false) in
    let e : left + (length roots - left - j) ≡ length roots - j = omega arith in
    let m : j - (length roots - left) ≡ j - length roots = omega arith in
    c.loop-left.invariant.is syndromes r ge lt given j done low ∙ ap₂ (λ (x : ℕ) (y : ℕ). combined (root_polynomial (drop x roots)) syndromes y) e m
