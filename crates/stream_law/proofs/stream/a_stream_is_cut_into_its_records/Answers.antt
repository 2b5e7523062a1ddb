use Rattle.std.proofs.Common.{◌≡◌, ℕ, ◌+◌, List, length, subst, sym, arith}
use Rattle.std.specs.Prelude.{All}
use Rattle.std.specs.List.{range_with_len}
use Rattle.std.proofs.lemmas.List.{append-nil}
use Rattle.wire_spec.specs.Lists.{joined}
use Rattle.ts_spec.specs.Recording.{record_size}
use Rattle.stream_spec.specs.Parts.{records_of_slots}
use Rattle.stream_spec.specs.Stream.{part_of}
use Rattle.stream_law.proofs.Sizes.{all_sizes, sizes_of_parts}
use Rattle.stream_law.proofs.stream.a_stream_is_cut_into_its_records.Goals as goal

pub returns : goal.returns
returns c = record {
  cut = λ plan datagrams records stream. record {
    whole = sym (append-nil (joined records));
    each = subst (λ (rs : List (List ℕ)). All (λ (bytes : List ℕ). length bytes ≡ record_size plan.recording) rs) (sym stream.records_are)
        (sizes_of_parts (record_size plan.recording) (λ version. records_of_slots (part_of plan datagrams stream.slots version) (stream.slots version)) 0 (length plan.changes + 1)
        (λ version less. all_sizes (part_of plan datagrams stream.slots version) (range_with_len 0 (stream.slots version))));
    short = omega arith;
  };
}
