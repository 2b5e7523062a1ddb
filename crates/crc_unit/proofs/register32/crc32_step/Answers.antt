use Rattle.std.proofs.Common.{◌≡◌, ℕ, ◌+◌, ◌*◌, ◌<◌, ◌≤◌, ◌/◌, ◌^◌, length, List, [], ◌++◌, drop, get_or, suc, arith, ap, ap₂, sym, ◌∙◌}
use Rattle.std.proofs.Math.Seq.{drop-cons}
use Rattle.std.proofs.lemmas.List.{drop_all}
use Rattle.std.proofs.lemmas.List.Elements.{All-from_get_or}
use Rattle.wire_spec.specs.Bytes.{AreBytes}
use Rattle.wire_spec.specs.Lists.{joined}
use Rattle.division_law.specs.Registers.{crc32_run}
use Rattle.division_law.proofs.Registers.{crc32_run-append, crc32_law}
use Rattle.crc_unit.proofs.Chunks.{joined_chunks}
use Rattle.crc_unit.proofs.register32.crc32_step.Goals as goal

pub loop-piece-preserved : goal.loop-piece-preserved
loop-piece-preserved c =
    let i : ℕ = c.loop-piece.piece-index in
    let pieces : List (List ℕ) = c.as_chunks.result.0.now in
    let piece : List ℕ = get_or pieces i [] in
    let within : i < length pieces = omega arith in
    let next : i + 1 ≡ suc i = omega arith in
    record {
      fits = omega arith;
      ahead =
          ap (λ n. crc32_run c.crc32_step-running.result (joined (drop n pieces))) next
          ∙ ap (λ r. crc32_run r (joined (drop (suc i) pieces))) c.crc32_step-running.ensures
          ∙ sym (crc32_run-append c.loop-piece.running piece (joined (drop (suc i) pieces)))
          ∙ sym (ap (λ l. crc32_run c.loop-piece.running (joined l)) (drop-cons pieces i [] within))
          ∙ c.loop-piece.invariant.ahead;
    }

pub returns : goal.returns
returns c =
    let start : ℕ = c.args.register in
    let running : ℕ = c.loop-piece.running in
    let bytes : List ℕ = c.args.bytes.now in
    let pieces : List (List ℕ) = c.as_chunks.result.0.now in
    let rest : List ℕ = c.as_chunks.result.1.now in
    let small : start < 2 ^ 32 = omega arith in
    let all : AreBytes bytes = All-from_get_or (λ x. x < 2 ^ 8) bytes 0 (λ i within. omega (arith, c.type_inv.bytes i)) in
    let k : ℕ = length bytes / 1536 in
    let within : k * 1536 ≤ length bytes = omega arith in
    let done : length pieces ≤ c.loop-piece.piece-index = omega arith in
    let whole : joined pieces ++ rest ≡ bytes =
    ap₂ (λ (x : List (List ℕ)) (y : List ℕ). joined x ++ y) c.as_chunks.ensures.front c.as_chunks.ensures.back ∙ joined_chunks 1536 k bytes within in
    let after : running ≡ crc32_run start (joined pieces) =
    sym (ap (λ l. crc32_run running (joined l)) (drop_all c.loop-piece.piece-index pieces done)) ∙ c.loop-piece.invariant.ahead in
    c.crc32_step-2.ensures
    ∙ ap (λ r. crc32_run r rest) after
    ∙ sym (crc32_run-append start (joined pieces) rest)
    ∙ ap (λ l. crc32_run start l) whole
    ∙ crc32_law start bytes small all
