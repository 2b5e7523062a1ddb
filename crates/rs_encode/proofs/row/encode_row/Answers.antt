use Rattle.std.proofs.Common.{arith, ◌≡◌, ◌<◌, ◌≤◌, ◌++◌, ap, sym, ◌∙◌, ℕ, List, length, get_or, refl, take, length-append}
use Rattle.std.proofs.lemmas.List.{take_more, take_all}
use Rattle.std.proofs.lemmas.List.Elements.{All-append, All-from_get_or}
use Rattle.fec_spec.specs.Codeword.{row_value}
use Rattle.fec_spec.specs.Field.{field_power}
use Rattle.rs_encode.specs.declared.generator.TheConstants.{GENERATOR}
use Rattle.rs_encode.proofs.Division.{zeros_small, value_zeros, encode_step}
use Rattle.rs_encode.proofs.Roots.{generator_root}
use Rattle.rs_encode.proofs.row.encode_row.Goals as goal

pub loop-byte-init : goal.loop-byte-init
loop-byte-init c = record { zeros = λ m h. value_zeros (field_power 2 m) 64; long = refl; bytes = zeros_small 64 }

pub loop-byte-preserved : goal.loop-byte-preserved
loop-byte-preserved c =
    let n : ℕ = c.loop-byte.byte-index in
    let given : List ℕ = c.args.given.now in
    let next : List ℕ = c.next_state-state.result in
    let lt : n < length given = omega arith in
    record {
      zeros = λ m h.
          ap (λ l. row_value (field_power 2 m) (l ++ next)) (take_more given n 0 lt)
          ∙ encode_step (field_power 2 m) (get_or given n 0) (take n given) c.loop-byte.state next GENERATOR
          c.loop-byte.invariant.long refl c.next_state-state.ensures (generator_root m h) (c.loop-byte.invariant.zeros m h);
      long = c.next_state-state.ensures.long;
      bytes = c.next_state-state.ensures.bytes;
    }

pub returns : goal.returns
returns c =
    let given : List ℕ = c.args.given.now in
    let lg : length given ≡ 191 = c.told-given in
    let ls : length c.loop-byte.state ≡ 64 = c.loop-byte.invariant.long in
    let le : length given ≤ c.loop-byte.byte-index = omega arith in
    record {
      written = record {
        long = length-append given c.loop-byte.state ∙ (omega arith);
        bytes = All-append (λ b. b < 256) given c.loop-byte.state (All-from_get_or (λ b. b < 256) given 0 (λ i h. omega (arith, c.fits-given i))) c.loop-byte.invariant.bytes;
        zeros = λ m h. ap (λ l. row_value (field_power 2 m) (l ++ c.loop-byte.state)) (sym (take_all c.loop-byte.byte-index given le)) ∙ c.loop-byte.invariant.zeros m h;
      };
    }
