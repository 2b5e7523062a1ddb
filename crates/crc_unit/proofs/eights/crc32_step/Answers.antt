use Rattle.std.proofs.Common.{◌≡◌, ℕ, ◌+◌, ◌*◌, ◌<◌, ◌≤◌, ◌/◌, ◌^◌, length, List, [], ◌++◌, drop, get_or, suc, arith, ap, ap₂, sym, subst, ◌∙◌}
use Rattle.std.proofs.Math.Seq.{drop-cons}
use Rattle.std.proofs.lemmas.List.{drop_all}
use Rattle.std.proofs.lemmas.List.Elements.{All-from_get_or, All-drop}
use Rattle.wire_spec.specs.Bytes.{AreBytes}
use Rattle.wire_spec.specs.Lists.{joined}
use Rattle.division_law.specs.Registers.{crc32_run}
use Rattle.division_law.proofs.Registers.{crc32_run-append, crc32_law}
use Rattle.crc_unit.proofs.Chunks.{joined_chunks}
use Rattle.crc_unit.proofs.eights.crc32_step.Goals as goal

pub loop-eight-preserved : goal.loop-eight-preserved
loop-eight-preserved c =
    let i : ℕ = c.loop-eight.eight-index in
    let eights : List (List ℕ) = c.as_chunks.result.0.now in
    let eight : List ℕ = get_or eights i [] in
    let within : i < length eights = omega arith in
    let next : i + 1 ≡ suc i = omega arith in
    record {
      fits = omega arith;
      ahead =
          ap (λ n. crc32_run c.eight_step-running.result (joined (drop n eights))) next
          ∙ ap (λ r. crc32_run r (joined (drop (suc i) eights))) c.eight_step-running.ensures
          ∙ sym (crc32_run-append c.loop-eight.running eight (joined (drop (suc i) eights)))
          ∙ sym (ap (λ l. crc32_run c.loop-eight.running (joined l)) (drop-cons eights i [] within))
          ∙ c.loop-eight.invariant.ahead;
    }

pub returns : goal.returns
returns c =
    let start : ℕ = c.args.register in
    let running : ℕ = c.loop-eight.running in
    let bytes : List ℕ = c.args.bytes.now in
    let eights : List (List ℕ) = c.as_chunks.result.0.now in
    let rest : List ℕ = c.as_chunks.result.1.now in
    let small : start < 2 ^ 32 = omega arith in
    let fits : running < 2 ^ 32 = c.loop-eight.invariant.fits in
    let all : AreBytes bytes = All-from_get_or (λ x. x < 2 ^ 8) bytes 0 (λ i within. omega (arith, c.type_inv.bytes i)) in
    let k : ℕ = length bytes / 8 in
    let within : k * 8 ≤ length bytes = omega arith in
    let all_rest : AreBytes rest = subst (λ l. AreBytes l) (sym c.as_chunks.ensures.back) (All-drop (λ x. x < 2 ^ 8) (k * 8) bytes all) in
    let done : length eights ≤ c.loop-eight.eight-index = omega arith in
    let whole : joined eights ++ rest ≡ bytes =
    ap₂ (λ (x : List (List ℕ)) (y : List ℕ). joined x ++ y) c.as_chunks.ensures.front c.as_chunks.ensures.back ∙ joined_chunks 8 k bytes within in
    let after : running ≡ crc32_run start (joined eights) =
    sym (ap (λ l. crc32_run running (joined l)) (drop_all c.loop-eight.eight-index eights done)) ∙ c.loop-eight.invariant.ahead in
    c.crc32_step.ensures
    ∙ sym (crc32_law running rest fits all_rest)
    ∙ ap (λ r. crc32_run r rest) after
    ∙ sym (crc32_run-append start (joined eights) rest)
    ∙ ap (λ l. crc32_run start l) whole
    ∙ crc32_law start bytes small all
