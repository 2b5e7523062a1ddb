use Rattle.std.proofs.Common.{ℕ, ◌<◌, List, length}
use Rattle.plan_spec.specs.Plan.{PlanFields}
use Rattle.plan_law.proofs.Plans.{changes_right}
use Rattle.relay_law.specs.Relay.{IsRelay, ArrivesAgain}
use Rattle.relay_law.proofs.Again.{arrives_in_packets, arrives_in_frames, on_either, arrives_alone, arrives_by_class}
use Rattle.relay_law.proofs.relayed.what_arrives_of_a_relayed_stream.Goals as goal

pub returns : goal.returns
returns c =
    let capture = c.a_relayed_stream_is_that_of_a_capture.ensures in
    let hop = c.what_a_service_delivers_after_one_hop.ensures in
    let offered = c.what_is_offered_of_datagrams_are_some_of_them.ensures.offered in
    let second : (inner outer : PlanFields) (pieces stream : List (List ℕ)) → IsRelay inner outer pieces stream → (j : ℕ) → j < length outer.services → ArrivesAgain inner outer pieces stream j
    = λ inner outer pieces stream relay j known.
    on_either inner outer pieces stream j
    (arrives_in_packets capture.gives hop.within offered capture.in_packets c.what_arrives_of_a_capture.ensures.arrives
    c.the_pids_of_a_service_have_all_datagrams.ensures.all c.where_nothing_is_lost_a_stream_is_a_recording_of_itself.ensures.recorded
    c.all_of_a_capture_arrives_where_nothing_is_lost.ensures.wanted inner outer pieces stream relay j known)
    (arrives_in_frames capture.gives hop.within offered capture.in_frames c.each_datagram_is_sent_in_a_pdu.ensures.carries
    c.each_gse_service_delivers_what_arrived_intact.ensures.carries
    c.what_arrives_of_a_capture_in_frames.ensures.arrives c.each_capture_is_sent_in_frames.ensures.all c.a_frame_stream_is_a_recording_of_itself.ensures.is
    c.all_of_a_capture_arrives_where_no_frame_is_lost.ensures.wanted
    c.each_class_of_a_capture_arrives_in_order.ensures.keeps c.each_class_of_a_capture_arrives_in_order.ensures.one inner outer pieces stream relay j known) in
    record {
      second = second;
      first = λ inner sent pieces right.
          record {
            merged = c.a_recording_delivers_its_services_merged.ensures.merged inner pieces (changes_right inner right);
            wanted = λ k known carried carries is_recorded. hop.delivers inner k known sent carried carries pieces is_recorded;
          };
      alone = arrives_alone capture.gives hop.within offered hop.delivers c.what_one_service_delivers_is_relayed.ensures.all c.each_class_of_a_capture_arrives_in_order.ensures.one;
      alone_by_class =
          arrives_by_class capture.gives hop.within offered hop.delivers c.what_one_service_delivers_is_relayed.ensures.all
          c.each_class_of_a_capture_arrives_in_order.ensures.one second;
    }
