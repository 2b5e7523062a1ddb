-- The units of a service carry the datagrams that it takes.
use Rattle.std.proofs.Common.{◌≡◌, ℕ, zero, suc, ◌<◌, ◌≤◌, Bool, true, false, cond, ◌&&◌, leb, eqb, List, [], ◌∷◌, ◌++◌, length, map, refl, sym, ap, ◌∙◌, arith, Option, Some, None}
use Rattle.std.specs.Prelude.{◌↔◌, filter, flat_map, option_to_list, option_map, All, is_some}
use Rattle.wire_spec.specs.Bytes.{AreBytes}
use Rattle.wire_spec.specs.Datagram.{IsDatagram, ether_type_of}
use Rattle.ts_spec.specs.Form.{UnitForm, IsLawful, IsUnit}
use Rattle.ts_spec.specs.Packetized.{unit_at, Packetizes}
use Rattle.ts_spec.specs.Sndu.{sndu_form, is_sndu, sndu_bytes, sndu_fields, SnduFields}
use Rattle.ts_spec.specs.Chain.{chain_end, datagram_at}
use Rattle.section_spec.specs.Section.{section_form, section_fields}
use Rattle.section_spec.specs.Mpe.{MpeFields, IsRows, IsWritableMpe, mpe_to_write, mpe_bytes, mpe_of}
use Rattle.unit_stream.specs.Packing.{packetized}
use Rattle.channel_spec.specs.Delivered.{carried_by_sndu}
use Rattle.ule_unit.specs.Writable.{IsAddress, IsWritable}
use Rattle.plan_spec.specs.Plan.{KindFields, ule, mpe, fec, gse, PlanFields, pid_of, sliced_of}
use Rattle.plan_spec.specs.Route.{longest_of}
use Rattle.stream_spec.specs.Units.{FrameSchedule, mac_for, sndu_of, section_of, datagrams_by_frame, units_of_frames, units_of_kind, packets_of_kind}
use Rattle.stream_spec.specs.Services.{carried_by_section, carried_by_unit, form_of_kind}
use Rattle.plan_spec.specs.Offered.{datagrams as datagrams_of, service_of_datagram, is_offered_to, offered}
use Rattle.stream_spec.specs.Services.{kind_at}
use Rattle.plan_spec.specs.Bytes.{IsMac}
use Rattle.stream_law.specs.Words.{is_single, IsByteDatagram}
use Rattle.stream_law.proofs.Datagrams.{type_below, chain_gives, mac_for_is}
use Rattle.stream_law.proofs.Frames.{AreFramed, AreFrames, are_frames}
use Rattle.stream_law.proofs.KindRanges.{HasFrames}

-- a datagram that a service of this kind takes
pub record IsTaken (kind : KindFields) (datagram : List ℕ) : Type 0 where
  pub is : IsDatagram datagram
  pub bytes : AreBytes datagram
  pub size : length datagram ≤ longest_of kind

abbrev pub AreTaken : KindFields → List (List ℕ) → Type 0
AreTaken kind [] = Unit {0}
AreTaken kind (datagram ∷ datagrams) = IsTaken kind datagram × AreTaken kind datagrams

-- a service whose datagrams fit a section takes such as stand in frames
pub taken_framed : (kind : KindFields) → longest_of kind ≤ 4080 → (datagrams : List (List ℕ)) → AreTaken kind datagrams → AreFramed datagrams
taken_framed kind le [] taken = tt
taken_framed kind le (datagram ∷ datagrams) taken =
    (record { is = taken.0.is; bytes = taken.0.bytes; size = omega (arith, le, taken.0.size) }, taken_framed kind le datagrams taken.1)

-- with the laws of packetization, of SNDUs, of datagram_sections and of frames
module _ (packetizes : (form : UnitForm) (packing : Bool) (pid counter : ℕ) (units : List (List ℕ)) → IsLawful form → ((n : ℕ) → n < length units → IsUnit form (unit_at units n))
    → (begin : ℕ → ℕ) × Packetizes form units (packetized form packing pid counter units) begin)
    (sndu_lawful : IsLawful sndu_form)
    (sndu_units : (unit : List ℕ) → (is_sndu unit ≡ true) ↔ IsUnit sndu_form unit)
    (sndu_is : (npa : Option (List ℕ)) (first_type : ℕ) (pdu : List ℕ) → IsWritable npa first_type pdu → is_sndu (sndu_bytes npa first_type pdu) ≡ true)
    (sndu_read : (npa : Option (List ℕ)) (first_type : ℕ) (pdu : List ℕ) → IsWritable npa first_type pdu
    → sndu_fields (sndu_bytes npa first_type pdu) ≡ record { npa = npa; first_type = first_type; bytes = pdu })
    (section_lawful : IsLawful section_form)
    (mpe_unit : (m : MpeFields) → IsWritableMpe m → IsUnit section_form (mpe_bytes m))
    (mpe_read : (m : MpeFields) → IsWritableMpe m → mpe_of (section_fields (mpe_bytes m)) ≡ Some m)
    (mpe_can : (mac datagram : List ℕ) → AreBytes mac → length mac ≡ 6 → IsDatagram datagram → length datagram ≤ 4080 → IsWritableMpe (mpe_to_write mac None datagram))
    (unicast : List ℕ) (is_mac : IsMac unicast) where
  -- SNDUs
  writable : (address : Bool) (datagram : List ℕ) → IsDatagram datagram → AreBytes datagram → length datagram ≤ 32757
      → IsWritable (cond address (Some (mac_for unicast datagram)) None) (ether_type_of datagram) datagram
  writable address datagram is bytes size = record { address = by_address address; sixteen_bits = type_below datagram is; size = size }
    where
      by_address : (a : Bool) → IsAddress (cond a (Some (mac_for unicast datagram)) None)
      by_address true = (mac_for_is unicast datagram bytes is_mac).size
      by_address false = tt

  sndu_unit : (address : Bool) (datagram : List ℕ) → IsDatagram datagram → AreBytes datagram → length datagram ≤ 32757 → IsUnit sndu_form (sndu_of address unicast datagram)
  sndu_unit address datagram is bytes size =
      (sndu_units (sndu_of address unicast datagram)).0
      (sndu_is (cond address (Some (mac_for unicast datagram)) None) (ether_type_of datagram) datagram (writable address datagram is bytes size))

  sndu_carries : (address : Bool) (datagram : List ℕ) → IsDatagram datagram → AreBytes datagram → length datagram ≤ 32757
      → carried_by_sndu (sndu_of address unicast datagram) ≡ datagram ∷ []
  sndu_carries address datagram is bytes size =
      ap (λ (f : SnduFields). option_to_list (datagram_at (chain_end f.first_type f.bytes)))
      (sndu_read (cond address (Some (mac_for unicast datagram)) None) (ether_type_of datagram) datagram (writable address datagram is bytes size))
      ∙ ap option_to_list (chain_gives datagram is)

  -- datagram_sections
  can_write : (datagram : List ℕ) → IsDatagram datagram → AreBytes datagram → length datagram ≤ 4080 → IsWritableMpe (mpe_to_write (mac_for unicast datagram) None datagram)
  can_write datagram is bytes size =
      mpe_can (mac_for unicast datagram) datagram (mac_for_is unicast datagram bytes is_mac).bytes (mac_for_is unicast datagram bytes is_mac).size is size

  section_carries : (datagram : List ℕ) → IsDatagram datagram → AreBytes datagram → length datagram ≤ 4080 → carried_by_section (section_of unicast datagram) ≡ datagram ∷ []
  section_carries datagram is bytes size =
      ap (λ (o : Option MpeFields). option_to_list (option_map (λ (m : MpeFields). m.datagram) o))
      (mpe_read (mpe_to_write (mac_for unicast datagram) None datagram) (can_write datagram is bytes size))

  -- one unit of each datagram
  are_units : (form : UnitForm) (kind : KindFields) (unit : List ℕ → List ℕ) → ((datagram : List ℕ) → IsTaken kind datagram → IsUnit form (unit datagram))
      → (datagrams : List (List ℕ)) → AreTaken kind datagrams → (n : ℕ) → n < length (map unit datagrams) → IsUnit form (unit_at (map unit datagrams) n)
  are_units form kind unit each [] taken n less = absurd (omega arith)
  are_units form kind unit each (datagram ∷ datagrams) taken zero less = each datagram taken.0
  are_units form kind unit each (datagram ∷ datagrams) taken (suc n) less = are_units form kind unit each datagrams taken.1 n (omega arith)

  are_carried : (kind : KindFields) (unit : List ℕ → List ℕ) → ((datagram : List ℕ) → IsTaken kind datagram → carried_by_unit kind (unit datagram) ≡ datagram ∷ [])
      → (datagrams : List (List ℕ)) → AreTaken kind datagrams → datagrams ≡ flat_map (carried_by_unit kind) (map unit datagrams)
  are_carried kind unit each [] taken = refl
  are_carried kind unit each (datagram ∷ datagrams) taken =
      ap (λ (t : List (List ℕ)). datagram ∷ t) (are_carried kind unit each datagrams taken.1)
      ∙ ap (λ (t : List (List ℕ)). t ++ flat_map (carried_by_unit kind) (map unit datagrams)) (sym (each datagram taken.0))

  -- a service of which each datagram has its own unit: its datagrams in its units
  pub units_carry : (kind : KindFields) (schedule : FrameSchedule) (datagrams : List (List ℕ)) → is_single kind ≡ true → AreTaken kind datagrams
      → datagrams ≡ flat_map (carried_by_unit kind) (units_of_kind kind unicast schedule datagrams)
  units_carry (ule own address packing) schedule datagrams single taken =
      are_carried (ule own address packing) (sndu_of address unicast) (λ datagram of_it. sndu_carries address datagram of_it.is of_it.bytes of_it.size) datagrams taken
  units_carry (mpe own) schedule datagrams single taken =
      are_carried (mpe own) (section_of unicast) (λ datagram of_it. section_carries datagram of_it.is of_it.bytes of_it.size) datagrams taken
  units_carry (fec own rows parity window) schedule datagrams single taken = absurd (cc)
  units_carry (gse isi address) schedule datagrams single taken = absurd (cc)

  -- with the law of frames
  module _ (frames_units : (rows columns first : ℕ) (frames : List (List (List ℕ))) → IsRows rows → 1 ≤ columns → columns ≤ 64 → AreFrames rows frames
      → All (IsUnit section_form) (units_of_frames rows columns unicast first frames)) where
    -- the units of frames
    framed_units : (rows columns first : ℕ) (datagrams : List (List ℕ)) → IsRows rows → 1 ≤ columns → columns ≤ 64 → AreFramed datagrams
        → (n : ℕ) → n < length (units_of_frames rows columns unicast first (datagrams_by_frame rows datagrams))
        → IsUnit section_form (unit_at (units_of_frames rows columns unicast first (datagrams_by_frame rows datagrams)) n)
    framed_units rows columns first datagrams is_rows least most framed n less =
        frames_units rows columns first (datagrams_by_frame rows datagrams) is_rows least most (are_frames rows is_rows datagrams framed) n [] less

    -- a service on a PID without time slicing: its units in its packets
    pub units_packetized : (kind : KindFields) → HasFrames kind → (counter : ℕ) (schedule : FrameSchedule) (datagrams : List (List ℕ))
        → is_some (pid_of kind) ≡ true → sliced_of kind ≡ None → AreTaken kind datagrams
        → (begin : ℕ → ℕ) × Packetizes (form_of_kind kind) (units_of_kind kind unicast schedule datagrams) (packets_of_kind kind unicast counter schedule datagrams) begin
    units_packetized (ule own address packing) has counter schedule datagrams built none taken =
        packetizes sndu_form packing own counter (map (sndu_of address unicast) datagrams) sndu_lawful
        (are_units sndu_form (ule own address packing) (sndu_of address unicast) (λ datagram of_it. sndu_unit address datagram of_it.is of_it.bytes of_it.size) datagrams taken)
    units_packetized (mpe own) has counter schedule datagrams built none taken =
        packetizes section_form true own counter (map (section_of unicast) datagrams) section_lawful
        (are_units section_form (mpe own) (section_of unicast) (λ datagram of_it. mpe_unit (mpe_to_write (mac_for unicast datagram) None datagram) (can_write datagram of_it.is of_it.bytes of_it.size)) datagrams taken)
    units_packetized (fec own rows parity None) has counter schedule datagrams built none taken =
        packetizes section_form true own counter (units_of_frames rows parity unicast schedule.first (datagrams_by_frame rows datagrams)) section_lawful
        (framed_units rows parity schedule.first datagrams has.0 has.1 has.2 (taken_framed (fec own rows parity None) (omega arith) datagrams taken))
    units_packetized (fec own rows parity (Some window)) has counter schedule datagrams built none taken = absurd (cc (none))
    units_packetized (gse isi address) has counter schedule datagrams built none taken = absurd (cc (built))

-- What is offered to a service is what it takes.
taken_of : (kind : KindFields) (test : List ℕ → Bool) → ((datagram : List ℕ) → test datagram ≡ true → length datagram ≤ longest_of kind)
    → (datagrams : List (List ℕ)) → All IsByteDatagram datagrams → AreTaken kind (filter test datagrams)
taken_of kind test fits [] all = tt
taken_of kind test fits (datagram ∷ datagrams) all =
    by_test (test datagram) refl (taken_of kind test fits datagrams (λ n d less. all (suc n) d (omega (arith, less))))
  where
    by_test : (is : Bool) → test datagram ≡ is → AreTaken kind (filter test datagrams) → AreTaken kind (cond is (datagram ∷ filter test datagrams) (filter test datagrams))
    by_test true e later = (record { is = (all 0 [] (omega arith)).is; bytes = (all 0 [] (omega arith)).bytes; size = fits datagram e }, later)
    by_test false e later = later

pub offered_taken : (plan : PlanFields) (records : List (Option (List ℕ))) (k : ℕ) → All IsByteDatagram (datagrams_of records) → AreTaken (kind_at plan k) (offered plan records k)
offered_taken plan records k all =
    taken_of (kind_at plan k) (λ datagram. is_offered_to plan (service_of_datagram plan datagram) k datagram)
    (λ datagram e. fits_it datagram (service_of_datagram plan datagram) e) (datagrams_of records) all
  where
    no_longer : (a : Bool) (m n : ℕ) → (a && leb m n) ≡ true → m ≤ n
    no_longer true m n e = grind (arith, e)
    no_longer false m n e = absurd (cc)

    fits_it : (datagram : List ℕ) (o : Option ℕ) → is_offered_to plan o k datagram ≡ true → length datagram ≤ longest_of (kind_at plan k)
    fits_it datagram None e = absurd (cc)
    fits_it datagram (Some taker) e = no_longer (eqb taker k) (length datagram) (longest_of (kind_at plan k)) e
