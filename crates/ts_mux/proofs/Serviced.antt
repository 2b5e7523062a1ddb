-- The packets of a service.
use Rattle.std.proofs.Common.{◌≡◌, ℕ, ◌≤◌, Bool, true, List, length, map, ap, sym, ◌∙◌, subst}
use Rattle.std.specs.Prelude.{All}
use Rattle.ts_spec.specs.Sndu.{sndu_form}
use Rattle.section_spec.specs.Section.{section_form}
use Rattle.unit_stream.specs.Packing.{packetized}
use Rattle.plan_spec.specs.Changes.{with_pid}
use Rattle.stream_spec.specs.Units.{FrameSchedule, packets_of_kind, unit_of}
use Rattle.plan.specs.Parts.{kind_seen}
use Rattle.plan.specs.declared.service.Kind.{Kind}
use Rattle.plan.specs.declared.service.Kind.TheVariants.{Ule, Mpe}
use Rattle.ts_mux.proofs.Held.{sndus_least, sections_least}

module _ (unicast : List ℕ) (datagrams : List (List ℕ)) (kind : Kind) (pid counter : ℕ) where
  module _ (own : ℕ) (address packing : Bool) (is : kind ≡ Ule own address packing) where
    pub least_of_sndus : All (λ (unit : List ℕ). 2 ≤ length unit) (map (unit_of (kind_seen kind) unicast) datagrams)
    least_of_sndus = subst (λ (k : Kind). All (λ (unit : List ℕ). 2 ≤ length unit) (map (unit_of (kind_seen k) unicast) datagrams)) (sym is) (sndus_least address unicast datagrams)

    pub packets_of_sndus : (schedule : FrameSchedule) → packetized sndu_form packing pid counter (map (unit_of (kind_seen kind) unicast) datagrams) ≡ packets_of_kind (with_pid (kind_seen kind) pid) unicast counter schedule datagrams
    packets_of_sndus schedule =
        ap (λ (k : Kind). packetized sndu_form packing pid counter (map (unit_of (kind_seen k) unicast) datagrams)) is
        ∙ sym (ap (λ (k : Kind). packets_of_kind (with_pid (kind_seen k) pid) unicast counter schedule datagrams) is)

  module _ (own : ℕ) (is : kind ≡ Mpe own) where
    pub least_of_sections : All (λ (unit : List ℕ). 1 ≤ length unit) (map (unit_of (kind_seen kind) unicast) datagrams)
    least_of_sections = subst (λ (k : Kind). All (λ (unit : List ℕ). 1 ≤ length unit) (map (unit_of (kind_seen k) unicast) datagrams)) (sym is) (sections_least unicast datagrams)

    pub packets_of_sections : (schedule : FrameSchedule) → packetized section_form true pid counter (map (unit_of (kind_seen kind) unicast) datagrams) ≡ packets_of_kind (with_pid (kind_seen kind) pid) unicast counter schedule datagrams
    packets_of_sections schedule =
        ap (λ (k : Kind). packetized section_form true pid counter (map (unit_of (kind_seen k) unicast) datagrams)) is
        ∙ sym (ap (λ (k : Kind). packets_of_kind (with_pid (kind_seen k) pid) unicast counter schedule datagrams) is)
