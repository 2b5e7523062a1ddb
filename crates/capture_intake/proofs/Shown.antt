-- What bytes show where only captures of some link types are wanted.
use Rattle.std.proofs.Common.{◌≡◌, ℕ, ◌+◌, ◌<◌, true, false, Bool, List, [], ◌++◌, length, Option, Some, None, Result, Ok, Err, IfSome, option_map, refl, ap, sym, ◌∙◌, subst, append_assoc, is_some, if◌then◌else◌, arith, inl, inr}
use Rattle.std.specs.Prelude.{not, IsErrOf}
use Rattle.std.specs.Io.KnownBytes.{Consumes}
use Rattle.wire_spec.specs.Causes.{Rose}
use Rattle.std.proofs.KnownBytes.{prepend_known-nil}
use Rattle.ipe_io.specs.Told.{InputTold}
use Rattle.pcap_file.specs.Reading.{head_fault, link_at}
use Rattle.pcap_file.specs.Told.{Tells, place_of_fault}
use Rattle.pcap_file.specs.Known.{ReaderState}
use Rattle.pcap_file.specs.Reader.{Opens, Takes, rest_of, is_cut}
use Rattle.pcap_file.specs.declared.captured.LinkType.{LinkType}
use Rattle.pcap_file.specs.declared.captured.LinkType.TheVariants.{Raw}
use Rattle.pcap_file.specs.declared.faults.OpenFault.TheVariants as open_fault
use Rattle.pcap_file.proofs.Shown.{no_fault_in_head}
use Rattle.pcap_file.specs.declared.faults.CaptureFault.{CaptureFault}
use Rattle.pcap_file.specs.declared.faults.CaptureFault.TheVariants as fault
use Rattle.pcap_file.proofs.FileHeads.{head_fault-append, link_at-append, head_is_cut, head_is_whole}
use Rattle.pcap_file.proofs.Longest.{Tells-nothing}
use Rattle.pcap_file.proofs.Taken.{Takes-trans}
use Rattle.capture_intake.specs.Wanted.{TellsWanted, place_in_wanted, is_refused, ShowsFault}
use Rattle.capture_intake.specs.Taken.{Intakes, IsToldBy, HasTaken, ReadsBytes, ShowsRead}
use Rattle.pcap_file.specs.Reader.{HasOpenCause}
use Rattle.capture_intake.specs.Steps.{HasReadCause, IsGoing, ReadsNext, ShowsStop}
use Rattle.capture_intake.specs.declared.faults.PlacedFault.{PlacedFault}
use Rattle.capture_intake.specs.declared.reading.Next.{Next}
use Rattle.capture_intake.specs.declared.faults.CaptureReadFault.{CaptureReadFault}
use Rattle.capture_intake.specs.declared.faults.CaptureReadFault.TheVariants as read_fault

-- What holds of all bytes, by those that were read and the rest.

pub by_rest : (a b : Option (List ℕ)) (front : List ℕ) (P : List ℕ → Type 0) → Consumes a b front → IfSome b (λ rest. P (front ++ rest)) → IfSome a P
by_rest None b front P read h = tt
by_rest (Some xs) None front P read h = absurd read
by_rest (Some xs) (Some ys) front P read h = subst P (sym read) h

pub by_told : (a : Option (List ℕ)) (P Q : List ℕ → Type 0) → ((bytes : List ℕ) → P bytes → Q bytes) → IfSome a P → IfSome a Q
by_told None P Q f h = tt
by_told (Some xs) P Q f h = f xs h

-- the bytes of a head were read, and none is held
pub consumed_none : (a b : Option (List ℕ)) (head held : List ℕ) → Consumes a b head → held ≡ [] → Consumes a (rest_of held b) head
consumed_none a b head held took none =
    subst (λ (l : List ℕ). Consumes a (rest_of l b) head) (sym none) (subst (λ (o : Option (List ℕ)). Consumes a o head) (sym (prepend_known-nil b)) took)

-- Heads.

-- a head that has a fault is not refused
refused_fault : (wants : LinkType → Bool) (bytes : List ℕ) (fault : CaptureFault) → head_fault bytes ≡ Some fault → is_refused wants bytes ≡ false
refused_fault wants bytes fault e = rw e refl

-- one that can be read is refused by its link type
refused_link : (wants : LinkType → Bool) (bytes : List ℕ) (link : LinkType) → head_fault bytes ≡ None → Some link ≡ link_at bytes → is_refused wants bytes ≡ not (wants link)
refused_link wants bytes link right is = rw (right, ← is) refl

-- whatever follows it
refused_behind : (wants : LinkType → Bool) (front rest : List ℕ) (link : LinkType) → head_fault front ≡ None → Some link ≡ link_at front
    → is_refused wants (front ++ rest) ≡ not (wants link)
refused_behind wants front rest link right is =
    let whole = head_is_whole front right in
    refused_link wants (front ++ rest) link (head_fault-append front rest whole ∙ right) (is ∙ sym (link_at-append front rest whole))

-- what bytes tell that are not refused, and of those that are
told_wanted : (wants : LinkType → Bool) (bytes : List ℕ) (captured : List (List ℕ)) (found : Option CaptureFault) → is_refused wants bytes ≡ false → Tells bytes captured found
    → TellsWanted wants bytes captured found
told_wanted wants bytes captured found not_refused tells = rw not_refused tells

wanted_told : (wants : LinkType → Bool) (bytes : List ℕ) (captured : List (List ℕ)) (found : Option CaptureFault) → is_refused wants bytes ≡ false
    → TellsWanted wants bytes captured found → Tells bytes captured found
wanted_told wants bytes captured found not_refused tells = rw not_refused at tells

place_wanted : (wants : LinkType → Bool) (bytes : List ℕ) (captured : List (List ℕ)) → is_refused wants bytes ≡ false → place_in_wanted wants bytes captured ≡ place_of_fault bytes captured
place_wanted wants bytes captured not_refused = rw not_refused refl

told_refused : (wants : LinkType → Bool) (bytes : List ℕ) → is_refused wants bytes ≡ true → TellsWanted wants bytes [] (Some fault.Link)
told_refused wants bytes refused = rw refused (refl, refl)

place_refused : (wants : LinkType → Bool) (bytes : List ℕ) (captured : List (List ℕ)) → is_refused wants bytes ≡ true → place_in_wanted wants bytes captured ≡ 0
place_refused wants bytes captured refused = rw refused refl

-- after a right head a fault is in the record after those that are told
place_behind : (wants : LinkType → Bool) (front rest : List ℕ) (captured : List (List ℕ)) → head_fault front ≡ None → is_refused wants (front ++ rest) ≡ false
    → place_in_wanted wants (front ++ rest) captured ≡ length captured + 1
place_behind wants front rest captured right not_refused =
    place_wanted wants (front ++ rest) captured not_refused
    ∙ ap (λ (f : Option CaptureFault). if is_some f then 0 else length captured + 1) (head_fault-append front rest (head_is_whole front right) ∙ right)

-- what holds of all bytes that may be told
pub if_some : (a : Option (List ℕ)) (P : List ℕ → Type 0) → ((bytes : List ℕ) → P bytes) → IfSome a P
if_some None P h = tt
if_some (Some xs) P h = h xs

-- The head has a fault.

-- it is told, with its place
abbrev at_head : CaptureFault → PlacedFault
at_head found = record { fault = found; place = 0 }

head_place : (wants : LinkType → Bool) (bytes : List ℕ) (found : CaptureFault) → head_fault bytes ≡ Some found → 0 ≡ place_in_wanted wants bytes []
head_place wants bytes found e =
    sym (place_wanted wants bytes [] (refused_fault wants bytes found e) ∙ ap (λ (f : Option CaptureFault). if is_some f then 0 else length {A = List ℕ} [] + 1) e)

head_told : (wants : LinkType → Bool) (bytes : List ℕ) (found : CaptureFault) → head_fault bytes ≡ Some found → TellsWanted wants bytes [] (Some found)
head_told wants bytes found e = told_wanted wants bytes [] (Some found) (refused_fault wants bytes found e) (Tells-nothing bytes found e)

-- a fault of the head is none of the source
head_kept : {T : Type 0} (before now : ℕ) (found : CaptureFault) → HasOpenCause {T = T} before now (Err (open_fault.Capture found)) → now ≡ before
head_kept before now found cause = cause.kept (λ e. cc)

pub intakes_at_head : (wants : LinkType → Bool) (found : CaptureFault) (a b : InputTold) (Took : LinkType → List (List ℕ) → Type 0)
    → Opens (Err (open_fault.Capture found)) a b → IfSome a.left (λ bytes. head_fault bytes ≡ Some found) → (is_cut found ≡ true → b.ended ≡ true) → HasOpenCause {T = ReaderState} a.faults b.faults (Err (open_fault.Capture found))
    → ((link : LinkType) → Took link []) → Intakes wants (Ok (Some (at_head found))) a b Took
intakes_at_head wants found a b Took read head cut cause none = record {
  taken = record {
    link = Raw;
    captured = [];
    took = none Raw;
    few = omega arith;
    told = by_told a.left (λ bytes. head_fault bytes ≡ Some found) (λ bytes. IsToldBy wants bytes Raw [] (Some (at_head found)))
        (λ bytes is. record { told = head_told wants bytes found is; link_is = inl refl; place_is = head_place wants bytes found is }) head;
  };
  reads = record {
    bytes = read.head;
    takes = read.takes;
    ahead = inl read.few;
    shows = record { captured = []; told = head_told wants read.head found read.shows; place_is = head_place wants read.head found read.shows };
  };
  ended = λ e. cc;
  cut = cut;
  goes_on = λ e. absurd (cc);
  source = λ e. absurd (cc);
  kept = λ _. head_kept a.faults b.faults found cause;
}

-- The capture is refused.

pub intakes_refused : (wants : LinkType → Bool) (reader : ReaderState) (a b : InputTold) (Took : LinkType → List (List ℕ) → Type 0)
    → Opens (Ok reader) a b → wants reader.link ≡ false → b.faults ≡ a.faults → ((link : LinkType) → Took link [])
    → Intakes wants (Ok (Some (at_head fault.Link))) a b Took
intakes_refused wants reader a b Took read unwanted kept none =
    let right : head_fault read.head ≡ None = read.shows.capture.head in
    let refused : (rest : List ℕ) → is_refused wants (read.head ++ rest) ≡ true =
    λ rest. refused_behind wants read.head rest reader.link right read.shows.link ∙ ap not unwanted in
    let refused_head : is_refused wants read.head ≡ true = refused_link wants read.head reader.link right read.shows.link ∙ ap not unwanted in
    record {
      taken = record {
        link = Raw;
        captured = [];
        took = none Raw;
        few = omega arith;
        told = by_rest a.left b.left read.head (λ bytes. IsToldBy wants bytes Raw [] (Some (at_head fault.Link))) read.takes.consumed
            (if_some b.left (λ rest. IsToldBy wants (read.head ++ rest) Raw [] (Some (at_head fault.Link)))
            (λ rest. record {
              told = told_refused wants (read.head ++ rest) (refused rest);
              link_is = inl refl;
              place_is = sym (place_refused wants (read.head ++ rest) [] (refused rest));
            }));
      };
      reads = record {
        bytes = read.head;
        takes = read.takes;
        ahead = inl read.few;
        shows = record { captured = []; told = told_refused wants read.head refused_head; place_is = sym (place_refused wants read.head [] refused_head) };
      };
      ended = λ e. cc;
      cut = λ e. cc;
      goes_on = λ e. absurd (cc);
      source = λ e. absurd (cc);
      kept = λ _. kept;
    }

-- The head could not be read.

short_refused : (wants : LinkType → Bool) (head : List ℕ) → length head < 24 → is_refused wants head ≡ false
short_refused wants head short =
    let cut = head_is_cut head short in
    refused_fault wants head cut.0 cut.1

pub reads_failed_head : (wants : LinkType → Bool) (a b : InputTold) → Opens (Err open_fault.Failed) a b → ReadsBytes wants (Err read_fault.Source) a b
reads_failed_head wants a b read = record {
  bytes = read.head;
  takes = read.takes;
  ahead = inl read.few;
  shows = λ captured found told. no_fault_in_head read.head read.shows captured found (wanted_told wants read.head captured (Some found) (short_refused wants read.head read.shows) told);
}

-- All records were taken.

not_refused_behind : (wants : LinkType → Bool) (reader : ReaderState) (Took : LinkType → List (List ℕ) → Type 0) (front rest : List ℕ) (captured : List (List ℕ))
    → IsGoing wants reader Took front captured → is_refused wants (front ++ rest) ≡ false
not_refused_behind wants reader Took front rest captured going =
    refused_behind wants front rest reader.link going.has_read.capture.head going.has_read.link ∙ ap not going.wanted

placed : (o : Option PlacedFault) (m n : ℕ) → m ≡ n → IfSome o (λ found. found.place ≡ m) → IfSome o (λ found. found.place ≡ n)
placed None m n same at = tt
placed (Some found) m n same at = at ∙ same

pub taken_all : (wants : LinkType → Bool) (reader : ReaderState) (Took : LinkType → List (List ℕ) → Type 0) (front : List ℕ) (captured : List (List ℕ)) (a b : Option (List ℕ))
    (found : Option PlacedFault) → IsGoing wants reader Took front captured → Consumes a b front
    → IfSome b (λ rest. Tells (front ++ rest) captured (option_map (λ found. found.fault) found)) → IfSome found (λ found. found.place ≡ length captured + 1)
    → HasTaken wants found a Took
taken_all wants reader Took front captured a b found going read told at = record {
  link = reader.link;
  captured = captured;
  took = going.took;
  few = going.has_read.capture.few;
  told = by_rest a b front (λ bytes. IsToldBy wants bytes reader.link captured found) read
      (by_told b (λ rest. Tells (front ++ rest) captured (option_map (λ found. found.fault) found)) (λ rest. IsToldBy wants (front ++ rest) reader.link captured found)
      (λ rest tells.
      let not_refused = not_refused_behind wants reader Took front rest captured going in
      let right : head_fault front ≡ None = going.has_read.capture.head in
      record {
        told = told_wanted wants (front ++ rest) captured (option_map (λ found. found.fault) found) not_refused tells;
        link_is = inr (link_at-append front rest (head_is_whole front right) ∙ sym going.has_read.link);
        place_is = placed found (length captured + 1) (place_in_wanted wants (front ++ rest) captured) (sym (place_behind wants front rest captured right not_refused)) at;
      })
      told);
}

-- what was read then
pub reads_all : (wants : LinkType → Bool) (r : Result (Option PlacedFault) CaptureReadFault) (n : Result Next CaptureReadFault) (held front : List ℕ) (captured : List (List ℕ))
    (a b c : InputTold) → Takes a b (front ++ held) → ReadsNext held front captured n b c
    → ((bytes : List ℕ) → ShowsStop captured n bytes → (behind : List ℕ) → bytes ≡ front ++ behind → ShowsRead wants r bytes) → ReadsBytes wants r a c
reads_all wants r n held front captured a b c before stop shows = record {
  bytes = front ++ (held ++ stop.more);
  takes = subst (λ (l : List ℕ). Takes a c l) (append_assoc front held stop.more) (Takes-trans a b c (front ++ held) stop.more before stop.takes);
  ahead = stop.ahead;
  shows = shows (front ++ (held ++ stop.more)) stop.shows (held ++ stop.more) refl;
}

pub stops_in_error : (wants : LinkType → Bool) (reader : ReaderState) (Took : LinkType → List (List ℕ) → Type 0) (front bytes behind : List ℕ) (captured : List (List ℕ)) (e : CaptureReadFault)
    → IsGoing wants reader Took front captured → bytes ≡ front ++ behind → ShowsStop captured (Err e) bytes → ShowsRead wants (Err e) bytes
stops_in_error wants reader Took front bytes behind captured read_fault.Source going is shows = λ records found told.
    shows records found (wanted_told wants bytes records (Some found)
    (ap (λ (b : List ℕ). is_refused wants b) is ∙ not_refused_behind wants reader Took front behind captured going) told)
stops_in_error wants reader Took front bytes behind captured read_fault.OutOfMemory going is shows =
    ap head_fault is ∙ (head_fault-append front behind (head_is_whole front going.has_read.capture.head) ∙ going.has_read.capture.head)

pub stops_at_fault : (wants : LinkType → Bool) (reader : ReaderState) (Took : LinkType → List (List ℕ) → Type 0) (front bytes behind : List ℕ) (captured : List (List ℕ)) (found : CaptureFault)
    (place : ℕ) → IsGoing wants reader Took front captured → bytes ≡ front ++ behind → Tells bytes captured (Some found) → place ≡ length captured + 1 → ShowsFault wants bytes found place
stops_at_fault wants reader Took front bytes behind captured found place going is tells at =
    let not_refused = not_refused_behind wants reader Took front behind captured going in
    record {
      captured = captured;
      told = told_wanted wants bytes captured (Some found) (ap (λ (b : List ℕ). is_refused wants b) is ∙ not_refused) tells;
      place_is = at ∙ sym (ap (λ (b : List ℕ). place_in_wanted wants b captured) is ∙ place_behind wants front behind captured going.has_read.capture.head not_refused);
    }

-- The reading stopped.

same_error : {T X : Type 0} (e f : CaptureReadFault) → IsErrOf {T = T} (Err e) f → IsErrOf {T = X} (Err e) f
same_error e f is =
    let same : e ≡ f = cc in
    ap (λ x. Err x) same

pub intakes_stopped : (wants : LinkType → Bool) (e : CaptureReadFault) (a b c : InputTold) (Took : LinkType → List (List ℕ) → Type 0) → ReadsBytes wants (Err e) a c
    → HasReadCause {T = Next} b.faults c.faults (Err e) → b.faults ≡ a.faults → (IsErrOf {T = Next} (Err e) read_fault.Source → b.ended ≡ false → c.ended ≡ false)
    → (a.ended ≡ false → b.ended ≡ false) → Intakes wants (Err e) a c Took
intakes_stopped wants e a b c Took reads cause same goes on = record {
  taken = tt;
  reads = reads;
  ended = λ is. absurd (cc);
  cut = tt;
  goes_on = λ is was. goes (same_error e read_fault.Source is) (on was);
  source = λ is. subst (λ (n : ℕ). Rose n c.faults) same (cause.failed (same_error e read_fault.Source is));
  kept = λ not_failed. cause.kept (λ is. not_failed (same_error e read_fault.Source is)) ∙ same;
}
