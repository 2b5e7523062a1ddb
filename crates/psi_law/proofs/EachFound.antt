-- Each service that the tables of a plan name is found on its PID, and their INT is that of the plan.
use Rattle.std.proofs.Common.{◌≡◌, ◌≢◌, ℕ, ◌<◌, ◌≤◌, Bool, true, false, eqb, ltb, leb, cond, ◌&&◌, get_or, List, [], ◌∷◌, ◌++◌, length, map, flat_map, find, replicate, refl, ap, ap₂, sym, ◌∙◌, subst, arith, append_assoc, All, Option, Some, None}
use Rattle.std.specs.Prelude.{is_some, option_map, option_and_then}
use Rattle.std.specs.List.{list_any, filter_map}
use Rattle.std.proofs.lemmas.Bool.{eqb-true, eq-eqb, or_parts}
use Rattle.std.proofs.lemmas.List.{append-nil, length-map}
use Rattle.ts_spec.specs.Form.{IsUnit}
use Rattle.ts_spec.specs.Packet.{PacketFields, fields_of, is_packet, packet_bytes, null_packet}
use Rattle.ts_spec.specs.Recording.{plain, Record, plain_record, records_of}
use Rattle.ts_packet.specs.Fields.{written_fields}
use Rattle.section_spec.specs.Section.{section_form}
use Rattle.section_codec.proofs.Written.{unit-section_bytes}
use Rattle.unit_stream.specs.Packing.{packetized}
use Rattle.int_spec.specs.Table.{TableFields, table_body, table_bytes}
use Rattle.int_spec.specs.Reading.{IsInt}
use Rattle.int_spec.specs.Versions.{is_int}
use Rattle.plan_spec.specs.Plan.{ServiceFields, IntFields, PlanFields, pid_of, table_pids, service_pids}
use Rattle.plan_spec.specs.Checks.{is_between}
use Rattle.plan_spec.specs.Valid.{is_valid_int, is_plan}
use Rattle.plan_spec.specs.Wholes.{is_whole_plan}
use Rattle.plan_spec.specs.Bytes.{IsOfBytes}
use Rattle.plan_spec.specs.Signalling.{table_of}
use Rattle.stream_law.proofs.Plans.{both, at_most, at_least, few_services, ranges}
use Rattle.stream_law.proofs.Records.{read_of, read_both}
use Rattle.stream_law.proofs.TableWritten.{section_is_writable}
use Rattle.psi_spec.specs.Pat.{ProgramFields, PatFields, IsWritablePat, pat_body, pat_bytes, pat_fields, is_pat}
use Rattle.psi_spec.specs.Pmt.{StreamFields, PmtFields, IsWritablePmt, pmt_body, pmt_bytes, pmt_fields, is_pmt_of}
use Rattle.psi_spec.specs.Named.{sections_on, int_on, pat_of, after_pat, pmt_on, has_number, program_in, has_own_pid, pmt_by, has_tag, pid_by_tag, pid_by_pat, pid_named, NamedRule, named_by, ReadsAs, AreNamed}
use Rattle.psi_spec.specs.Tables.{moved_pids, used_pids, is_among, programs_of, stream_in, pmt_of, pat_of_plan, laid, laid_pmt, tables_with, table_packets_of}
use Rattle.psi_law.specs.Programs.{IsApart, has_names}
use Rattle.psi_law.proofs.ReadBack.{pat_writable, pat_is, pat_reads_back}
use Rattle.psi_law.proofs.PmtBack.{pmt_writable, pmt_reads_back, pmt_is_of}
use Rattle.psi_law.proofs.Laid.{sections_accepted, laid_own, laid_other, laid_accepted}
use Rattle.psi_law.proofs.Rising.{ids_of, numbers_are, few_numbers}
use Rattle.psi_law.proofs.Programs.{both_true, program_numbers, programs_fall, programs_apart}
use Rattle.psi_law.proofs.Found.{found_number, found_of_all, found_has, numbers_among, ids_small, streams_writable, length-streams_in, stream_found, id_there}
use Rattle.psi_law.proofs.AfterPat.{Leaves, leaves}
use Rattle.psi_law.proofs.ReadOn.{IsElsewhere, no_tail, none_read, own_read}

own_range : (p : ProgramFields) → has_own_pid p ≡ true → (32 ≤ p.pid) × (p.pid ≤ 8190)
own_range p own = let parts : (leb 32 p.pid ≡ true) × (leb p.pid 8190 ≡ true) = both (leb 32 p.pid) (leb p.pid 8190) own in (least parts.0, most parts.1)
  where
    least : leb 32 p.pid ≡ true → 32 ≤ p.pid
    least le = grind (arith, le)

    most : leb p.pid 8190 ≡ true → p.pid ≤ 8190
    most le = grind (arith, le)

above_zero : (n : ℕ) → 0 < n → ltb 0 n ≡ true
above_zero n less = Rattle.std.proofs.lemmas.Bool.lt-ltb 0 n less

differs : (a b : ℕ) → eqb a b ≡ false → b ≢ a
differs a b e same = absurd (cc (e, eq-eqb a b (sym same)))

not_zero : (n : ℕ) → 32 ≤ n → n ≢ 0
not_zero n least same = omega (arith, least, same)

int_values : (int : IntFields) → is_valid_int (Some int) ≡ true → (32 ≤ int.pid) × (int.pid ≤ 8190) × (int.transport_stream_id ≤ 65535)
int_values int e =
    let a : Bool = is_between 32 8190 int.pid in
    let b : Bool = is_between 0 16777215 int.platform_id in
    let c : Bool = is_between 0 65535 int.network_id in
    let d : Bool = is_between 0 65535 int.original_network_id in
    let f : Bool = is_between 0 65535 int.transport_stream_id in
    let first : (a ≡ true) × ((b && (c && (d && f))) ≡ true) = both a (b && (c && (d && f))) e in
    let last : f ≡ true = (both d f (both c (d && f) (both b (c && (d && f)) first.1).1).1).1 in
    (at_least 32 8190 int.pid first.0, at_most 32 8190 int.pid first.0, at_most 0 65535 int.transport_stream_id last)

found_first : (test : List ℕ → Bool) (b : List ℕ) → test b ≡ true → find test (b ∷ []) ≡ Some b
found_first test b is = ap (λ (t : Bool). cond t (Some b) None) is

module _ (readable : (pid : ℕ) (starts : Bool) (counter : ℕ) (payload : List ℕ) → counter ≤ 15 → pid ≤ 8191 → length payload ≡ 184 → is_packet (packet_bytes pid starts counter payload) ≡ true)
    (fields : (pid : ℕ) (starts : Bool) (counter : ℕ) (payload : List ℕ) → counter ≤ 15 → pid ≤ 8191 → fields_of (packet_bytes pid starts counter payload) ≡ written_fields pid starts counter payload)
    (null_fields : fields_of null_packet ≡ written_fields 0x1FFF false 0 (replicate 184 0xFF))
    (plan : PlanFields) (int : IntFields) (whole : is_whole_plan plan ≡ true) (accepted : is_plan plan ≡ true) (has : plan.table ≡ Some int) where
  abbrev programs : List ProgramFields
  programs = programs_of plan

  abbrev pat : PatFields
  pat = pat_of_plan plan int

  abbrev front : List (List ℕ)
  front = laid 0 (pat_bytes (pat_of_plan plan int))

  abbrev pmts : List (List ℕ)
  pmts = flat_map (laid_pmt plan) (programs_of plan)

  abbrev table : List (List ℕ)
  table = laid int.pid (table_bytes (table_of plan int))

  packets_are : table_packets_of plan ≡ front ++ (pmts ++ table)
  packets_are = ap (tables_with plan) has ∙ append_assoc front pmts table

  values : (32 ≤ int.pid) × (int.pid ≤ 8190) × (int.transport_stream_id ≤ 65535)
  values = int_values int (sym (ap is_valid_int has) ∙ (ranges plan accepted).int)

  apart : All (IsApart plan) programs
  apart = programs_apart plan whole accepted

  elsewhere_zero : All (IsElsewhere 0) programs
  elsewhere_zero k d less =
      let range : (32 ≤ (get_or programs k d).pid) × ((get_or programs k d).pid ≤ 8190) = own_range (get_or programs k d) (apart k d less).own in
      record { most = omega (arith, range.1); other = not_zero (get_or programs k d).pid range.0 }

  not_int : (p : ProgramFields) → is_among (used_pids plan) p.pid ≡ false → p.pid ≢ int.pid
  not_int p unused =
      differs int.pid p.pid
      (or_parts (eqb int.pid p.pid) (is_among (service_pids plan ++ flat_map moved_pids plan.changes) p.pid)
      (sym (ap (λ (t : Option IntFields). is_among (table_pids t ++ service_pids plan ++ flat_map moved_pids plan.changes) p.pid) has) ∙ unused)).0

  elsewhere_int : All (IsElsewhere int.pid) programs
  elsewhere_int k d less =
      let range : (32 ≤ (get_or programs k d).pid) × ((get_or programs k d).pid ≤ 8190) = own_range (get_or programs k d) (apart k d less).own in
      record { most = omega (arith, range.1); other = not_int (get_or programs k d) (apart k d less).unused }

  -- Both tables can be written.

  number_small : (n : ℕ) → is_among (map (λ (p : ProgramFields). p.number) programs) n ≡ true → n ≤ 65535
  number_small n there =
      ids_small (ranges plan accepted).least plan.services n (ranges plan accepted).services
      (both (ltb 0 n) (is_among (ids_of plan.services) n)
      (sym (numbers_are plan.services n) ∙ ap (λ (l : List ℕ). is_among l n) (sym (program_numbers plan whole accepted)) ∙ there)).1

  few_programs : length programs ≤ 64
  few_programs =
      omega (
        arith,
        length-map programs (λ (p : ProgramFields). p.number),
        ap length (program_numbers plan whole accepted),
        few_numbers plan.services,
        few_services plan accepted,
      )

  pat_ok : IsWritablePat pat
  pat_ok = record {
    transport_stream_id = omega (arith, values.2);
    programs = λ k d less. record {
      number = omega (arith, number_small (get_or programs k d).number (numbers_among programs k d less));
      pid = omega (arith, (own_range (get_or programs k d) (apart k d less).own).1);
    };
    most = omega (arith, few_programs);
  }

  pmt_ok : (n : ℕ) → n ≤ 65535 → IsWritablePmt (pmt_of plan n)
  pmt_ok n small = record {
    number = omega (arith, small);
    streams = streams_writable (ranges plan accepted).least n plan.services (ranges plan accepted).services;
    most = omega (arith, length-streams_in n plan.services, few_services plan accepted);
  }

  pat_unit : IsUnit section_form (pat_bytes pat)
  pat_unit = unit-section_bytes 0x00 0xB0 (pat_body pat) (pat_writable pat pat_ok)

  -- The PAT.

  none_of_zero : read_of 0 (pmts ++ table) ≡ []
  none_of_zero =
      read_both 0 pmts table
      ∙ ap₂ (λ (a b : List PacketFields). a ++ b) (none_read readable fields null_fields plan 0 programs elsewhere_zero)
      (laid_other readable fields null_fields 0 int.pid (table_bytes (table_of plan int)) (omega (arith, values.1)) (not_zero int.pid values.0))

  pat_there : pat_of (records_of plain (front ++ (pmts ++ table))) ≡ Some (pat_bytes pat)
  pat_there =
      ap (find is_pat) (laid_accepted readable fields null_fields 0 [] (pmts ++ table) (pat_bytes pat) (omega arith) pat_unit refl none_of_zero)
      ∙ found_first is_pat (pat_bytes pat) (pat_is pat pat_ok)

  pat_early : pat_of (map plain_record front) ≡ Some (pat_bytes pat)
  pat_early =
      ap (find is_pat) (sections_accepted 0 front (pat_bytes pat) pat_unit (laid_own readable fields null_fields 0 (pat_bytes pat) (omega arith)))
      ∙ found_first is_pat (pat_bytes pat) (pat_is pat pat_ok)

  behind : Leaves [] front (pmts ++ table)
  behind = leaves [] front (pmts ++ table) refl (ap (λ (o : Option (List ℕ)). is_some o) pat_early)

  -- The PMT of a program that is found.

  pmt_sections : (n : ℕ) (program : ProgramFields) → find (has_number n) programs ≡ Some program → IsUnit section_form (pmt_bytes (pmt_of plan program.number))
      → sections_on program.pid (after_pat (records_of plain (front ++ (pmts ++ table)))) ≡ pmt_bytes (pmt_of plan program.number) ∷ []
  pmt_sections n program found unit =
      let own : IsApart plan program = found_of_all (IsApart plan) n program programs apart found in
      let range : (32 ≤ program.pid) × (program.pid ≤ 8190) = own_range program own.own in
      let none : read_of program.pid front ≡ [] =
      laid_other readable fields null_fields program.pid 0 (pat_bytes pat) (omega arith) (λ same. omega (arith, same, range.0)) in
      let of_int : read_of program.pid table ≡ [] =
      laid_other readable fields null_fields program.pid int.pid (table_bytes (table_of plan int)) (omega (arith, values.1)) (λ same. not_int program own.unused (sym same)) in
      ap (sections_on program.pid) behind.left
      ∙ sections_accepted program.pid (behind.tail ++ (pmts ++ table)) (pmt_bytes (pmt_of plan program.number)) unit
      (read_both program.pid behind.tail (pmts ++ table)
      ∙ ap₂ (λ (a b : List PacketFields). a ++ b) (no_tail program.pid front behind.head behind.tail behind.parts none)
      (read_both program.pid pmts table
      ∙ ap₂ (λ (a b : List PacketFields). a ++ b)
      (own_read readable fields null_fields plan n 8191 program programs (omega arith) (programs_fall plan whole accepted) found) of_int)
      ∙ append-nil (packetized section_form true program.pid 0 (pmt_bytes (pmt_of plan program.number) ∷ [])))

  pmt_there : (n : ℕ) (program : ProgramFields) → find (has_number n) programs ≡ Some program → program.number ≤ 65535
      → pmt_by program (records_of plain (front ++ (pmts ++ table))) ≡ Some (pmt_of plan program.number)
  pmt_there n program found small =
      let own : IsApart plan program = found_of_all (IsApart plan) n program programs apart found in
      let pmt : PmtFields = pmt_of plan program.number in
      let ok : IsWritablePmt pmt = pmt_ok program.number small in
      let records : List Record = records_of plain (front ++ (pmts ++ table)) in
      ap (λ (b : Bool). cond b (option_map pmt_fields (pmt_on program.number program.pid (after_pat records))) None) own.own
      ∙ ap (λ (l : List (List ℕ)). option_map pmt_fields (find (is_pmt_of program.number) l))
      (pmt_sections n program found (unit-section_bytes 0x02 0xB0 (pmt_body pmt) (pmt_writable pmt ok)))
      ∙ ap (option_map pmt_fields) (found_first (is_pmt_of program.number) (pmt_bytes pmt) (pmt_is_of program.number pmt ok ∙ eq-eqb program.number program.number refl))
      ∙ ap (λ (p : PmtFields). Some p) (pmt_reads_back pmt ok)

  -- The service.

  found_in : (service : ServiceFields) (pid : ℕ) (earlier later : List ServiceFields) → plan.services ≡ earlier ++ service ∷ later → 0 < service.service_id
      → pid_of service.kind ≡ Some pid → list_any (has_names service.service_id service.component_tag) earlier ≡ false
      → pid_by_pat int.transport_stream_id service.service_id service.component_tag (records_of plain (front ++ (pmts ++ table))) pat ≡ Some pid
  found_in service pid earlier later services some is none =
      let n : ℕ = service.service_id in
      let records : List Record = records_of plain (front ++ (pmts ++ table)) in
      let among : is_among (map (λ (p : ProgramFields). p.number) programs) n ≡ true =
      ap (λ (l : List ℕ). is_among l n) (program_numbers plan whole accepted) ∙ numbers_are plan.services n
      ∙ both_true (ltb 0 n) (is_among (ids_of plan.services) n) (above_zero n some) (ap (λ (l : List ServiceFields). is_among (ids_of l) n) services ∙ id_there service earlier later) in
      let found : (program : ProgramFields) × (find (has_number n) programs ≡ Some program) = found_number programs n among in
      let number : found.0.number ≡ n = found_has n found.0 programs found.1 in
      ap (λ (b : Bool). cond b (option_and_then (pid_by_tag service.component_tag) (option_and_then (λ program. pmt_by program records) (program_in n pat))) None)
      (eq-eqb int.transport_stream_id int.transport_stream_id refl)
      ∙ ap (λ (b : Bool). option_and_then (pid_by_tag service.component_tag) (option_and_then (λ program. pmt_by program records) (cond b (find (has_number n) programs) None))) (above_zero n some)
      ∙ ap (λ (o : Option ProgramFields). option_and_then (pid_by_tag service.component_tag) (option_and_then (λ program. pmt_by program records) o)) found.1
      ∙ ap (option_and_then (pid_by_tag service.component_tag)) (pmt_there n found.0 found.1 (omega (arith, number, number_small n among)))
      ∙ ap₂ (λ (m : ℕ) (l : List ServiceFields). option_map (λ (s : StreamFields). s.pid) (find (has_tag service.component_tag) (filter_map (stream_in m) l))) number services
      ∙ ap (option_map (λ (s : StreamFields). s.pid)) (stream_found service pid earlier later is none)

  pub service_found : (service : ServiceFields) (pid : ℕ) (earlier later : List ServiceFields) → plan.services ≡ earlier ++ service ∷ later → 0 < service.service_id
      → pid_of service.kind ≡ Some pid → list_any (has_names service.service_id service.component_tag) earlier ≡ false
      → pid_named (records_of plain (table_packets_of plan)) int.transport_stream_id service.service_id service.component_tag ≡ Some pid
  service_found service pid earlier later services some is none =
      ap (λ (l : List (List ℕ)). pid_named (records_of plain l) int.transport_stream_id service.service_id service.component_tag) packets_are
      ∙ ap (λ (o : Option (List ℕ)). option_and_then
      (λ section. pid_by_pat int.transport_stream_id service.service_id service.component_tag (records_of plain (front ++ (pmts ++ table))) (pat_fields section)) o) pat_there
      ∙ ap (λ (p : PatFields). pid_by_pat int.transport_stream_id service.service_id service.component_tag (records_of plain (front ++ (pmts ++ table))) p) (pat_reads_back pat pat_ok)
      ∙ found_in service pid earlier later services some is none

  -- The INT.

  pub int_there : IsOfBytes plan → is_int (table_bytes (table_of plan int)) ≡ true → int_on int.pid (records_of plain (table_packets_of plan)) ≡ Some (table_bytes (table_of plan int))
  int_there of_bytes is =
      let none : read_of int.pid (front ++ pmts) ≡ [] =
      read_both int.pid front pmts
      ∙ ap₂ (λ (a b : List PacketFields). a ++ b)
      (laid_other readable fields null_fields int.pid 0 (pat_bytes pat) (omega arith) (λ same. not_zero int.pid values.0 (sym same)))
      (none_read readable fields null_fields plan int.pid programs elsewhere_int) in
      ap (λ (l : List (List ℕ)). int_on int.pid (records_of plain l)) (ap (tables_with plan) has)
      ∙ ap (find is_int)
      (sections_accepted int.pid (front ++ pmts ++ table) (table_bytes (table_of plan int))
      (unit-section_bytes 0x4C 0xF0 (table_body (table_of plan int)) (section_is_writable plan int accepted of_bytes))
      (read_both int.pid (front ++ pmts) table
      ∙ ap₂ (λ (a b : List PacketFields). a ++ b) none (laid_own readable fields null_fields int.pid (table_bytes (table_of plan int)) (omega (arith, values.1)))))
      ∙ found_first is_int (table_bytes (table_of plan int)) is

  pub int_carried : IsOfBytes plan → is_int (table_bytes (table_of plan int)) ≡ true → IsInt (table_bytes (table_of plan int)) (table_of plan int)
      → ReadsAs (int_on int.pid (records_of plain (table_packets_of plan))) (Some (table_of plan int))
  int_carried of_bytes is reads = subst (λ (o : Option (List ℕ)). ReadsAs o (Some (table_of plan int))) (sym (int_there of_bytes is)) reads

-- what is named by the first INT is named by its table, where a section carries one table at most
pub named_is : (one : (b : List ℕ) (t u : TableFields) → IsInt b t → IsInt b u → t ≡ u) (records : List Record) (pid : ℕ) (table : TableFields) (rules : List NamedRule)
    → ReadsAs (int_on pid records) (Some table) → AreNamed pid records rules → rules ≡ named_by records (Some table)
named_is one records pid table rules carried are = are.rules_are ∙ ap (named_by records) (by_first (int_on pid records) are.table carried are.carried)
  where
    by_first : (section : Option (List ℕ)) (other : Option TableFields) → ReadsAs section (Some table) → ReadsAs section other → other ≡ Some table
    by_first None other own told = absurd own
    by_first (Some b) None own told = absurd told
    by_first (Some b) (Some u) own told = ap (λ (t : TableFields). Some t) (one b u table told own)
