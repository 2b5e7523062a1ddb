use Rattle.std.proofs.Common.{ℕ, [], Option, ap, sym, subst, ◌∙◌}
use Rattle.std.specs.Option.{unwrap_or}
use Rattle.wire_spec.specs.Lists.{joined, IsCut}
use Rattle.ts_spec.specs.Recording.{record_size}
use Rattle.stream_law.specs.Captures.{given_by}
use Rattle.carrier_spec.specs.Stream.{piece_size}
use Rattle.bb_reception_spec.specs.Delivered.{delivered_of}
use Rattle.end_to_end_law.proofs.bb_bytes.all_arrives_of_the_bytes_of_sent_frames.Goals as goal

pub returns : goal.returns
returns c = record {
  wanted = λ plan capture told frames sent delivered delivers k known.
      let cut : IsCut (piece_size plan) (joined frames) frames []
      = subst (λ (n : ℕ). IsCut n (joined frames) frames []) (sym (ap (λ (size : Option ℕ). unwrap_or size (record_size plan.recording)) sent.stream.size_is))
      (c.a_baseband_stream_is_cut_into_its_frames.ensures.cut plan sent.accepted sent.of_bytes (given_by capture told) frames sent.stream) in
      let same = c.cuts_are_unique.ensures.pieces (piece_size plan) (joined frames) delivers.pieces frames delivers.tail [] delivers.cut cut in
      delivers.each k known
      ∙ ap (delivered_of plan k) same
      ∙ c.all_of_a_capture_arrives_where_no_frame_is_lost.ensures.wanted plan capture told frames sent k known;
}
