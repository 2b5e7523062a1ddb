use Rattle.std.proofs.Common.{◌≡◌, ℕ, ◌+◌, ◌*◌, ◌<◌, ◌≤◌, ◌/◌, ◌^◌, length, List, [], ◌++◌, drop, get_or, suc, arith, ap, ap₂, sym, subst, ◌∙◌}
use Rattle.std.proofs.Math.Seq.{drop-cons}
use Rattle.std.proofs.lemmas.List.{drop_all}
use Rattle.std.proofs.lemmas.List.Elements.{All-from_get_or, All-drop}
use Rattle.wire_spec.specs.Bytes.{AreBytes}
use Rattle.wire_spec.specs.Lists.{joined}
use Rattle.division_law.specs.Registers.{crc32_run}
use Rattle.division_law.proofs.Registers.{crc32_run-append, crc32_law}
use Rattle.crc_unit.proofs.Chunks.{joined_chunks}
use Rattle.crc_unit.proofs.sixteens.crc32_step.Goals as goal

pub loop-sixteen-preserved : goal.loop-sixteen-preserved
loop-sixteen-preserved c =
    let i : ℕ = c.loop-sixteen.sixteen-index in
    let sixteens : List (List ℕ) = c.as_chunks.result.0.now in
    let sixteen : List ℕ = get_or sixteens i [] in
    let within : i < length sixteens = omega arith in
    let next : i + 1 ≡ suc i = omega arith in
    record {
      fits = omega arith;
      ahead =
          ap (λ n. crc32_run c.sixteen_step-running.result (joined (drop n sixteens))) next
          ∙ ap (λ r. crc32_run r (joined (drop (suc i) sixteens))) c.sixteen_step-running.ensures
          ∙ sym (crc32_run-append c.loop-sixteen.running sixteen (joined (drop (suc i) sixteens)))
          ∙ sym (ap (λ l. crc32_run c.loop-sixteen.running (joined l)) (drop-cons sixteens i [] within))
          ∙ c.loop-sixteen.invariant.ahead;
    }

pub returns : goal.returns
returns c =
    let start : ℕ = c.args.register in
    let running : ℕ = c.loop-sixteen.running in
    let bytes : List ℕ = c.args.bytes.now in
    let sixteens : List (List ℕ) = c.as_chunks.result.0.now in
    let rest : List ℕ = c.as_chunks.result.1.now in
    let small : start < 2 ^ 32 = omega arith in
    let fits : running < 2 ^ 32 = c.loop-sixteen.invariant.fits in
    let all : AreBytes bytes = All-from_get_or (λ x. x < 2 ^ 8) bytes 0 (λ i within. omega (arith, c.type_inv.bytes i)) in
    let k : ℕ = length bytes / 16 in
    let within : k * 16 ≤ length bytes = omega arith in
    let all_rest : AreBytes rest = subst (λ l. AreBytes l) (sym c.as_chunks.ensures.back) (All-drop (λ x. x < 2 ^ 8) (k * 16) bytes all) in
    let done : length sixteens ≤ c.loop-sixteen.sixteen-index = omega arith in
    let whole : joined sixteens ++ rest ≡ bytes =
    ap₂ (λ (x : List (List ℕ)) (y : List ℕ). joined x ++ y) c.as_chunks.ensures.front c.as_chunks.ensures.back ∙ joined_chunks 16 k bytes within in
    let after : running ≡ crc32_run start (joined sixteens) =
    sym (ap (λ l. crc32_run running (joined l)) (drop_all c.loop-sixteen.sixteen-index sixteens done)) ∙ c.loop-sixteen.invariant.ahead in
    c.crc32_step.ensures
    ∙ sym (crc32_law running rest fits all_rest)
    ∙ ap (λ r. crc32_run r rest) after
    ∙ sym (crc32_run-append start (joined sixteens) rest)
    ∙ ap (λ l. crc32_run start l) whole
    ∙ crc32_law start bytes small all
