-- What an outlet was given, where the rack failed in a record, and what the rack is after it.
use Rattle.std.proofs.Common.{◌≡◌, ℕ, ◌+◌, ◌<◌, ◌≤◌, List, [], ◌∷◌, length, take, refl, ap, sym, ◌∙◌, arith, subst, Option}
use Rattle.std.proofs.lemmas.List.{length-take-le}
use Rattle.wire_spec.specs.Causes.{Rose}
use Rattle.wire_spec.specs.Content.{File, ChangesFile, grown}
use Rattle.pcap_file.specs.Capture.{capture_record}
use Rattle.ipe_io.specs.Told.{RackTold}
use Rattle.ipe_io.proofs.Told.{IsThere}
use Rattle.outlet_spec.specs.Pairs.{Delivers}
use Rattle.capture_files.specs.declared.outlet.Progress.{Progress}
use Rattle.capture_files.specs.declared.outlet.Progress.TheVariants.{Whole, Stopped, Passed}
use Rattle.capture_files.specs.Growth.{Grow, EndsWith, text_in, records_at, records_and}
use Rattle.capture_files.specs.Outlets.{RackSeen, WasGiven, StandsFor, Refuses, failures, WritesAll, WritesPartOf}
use Rattle.capture_files.proofs.Grown.{grow-nil, grow_then, grow_one, grow_exact}

-- the file of a service grew after others
grow_more : (began mid now : RackSeen) (pairs : List (ℕ × List ℕ)) (k : ℕ) (text : List ℕ) → WasGiven began mid Whole pairs
    → IsThere mid.files (mid.first + k) → ChangesFile mid.files now.files (mid.first + k) (λ file. grown file text) → Grow began.files now.files (records_and began.first k text pairs)
grow_more began mid now pairs k text given there put =
    grow_then began.files mid.files now.files (records_at began.first pairs) (text_in began.first k text) given.files.1
    (grow_one mid.files now.files began.first k text (subst (λ (i : ℕ). IsThere mid.files (i + k)) given.first there)
    (subst (λ (i : ℕ). ChangesFile mid.files now.files (i + k) (λ file. grown file text)) given.first put))

-- the rack failed in a record
pub stands_stopped : (began mid now : RackSeen) (borrow : ℕ) (pairs : List (ℕ × List ℕ)) (k put : ℕ) (d : List ℕ)
    → StandsFor began mid Whole borrow pairs
    → now.first ≡ mid.first → now.count ≡ mid.count → Rose mid.faults now.faults → mid.faults ≤ now.faults → IsThere mid.files (mid.first + k)
    → put < length (capture_record d) → ChangesFile mid.files now.files (mid.first + k) (λ file. grown file (take put (capture_record d)))
    → StandsFor began now (Stopped k put) borrow pairs
stands_stopped began mid now borrow [] k put d stands first count rose later there less changed = absurd stands
stands_stopped began mid now borrow (name ∷ pairs) k put d stands first count rose later there less changed = (
  stands.0,
  record {
    first = first ∙ stands.1.first;
    count = count ∙ stands.1.count;
    later = omega (arith, stands.1.later, later);
    files = (
      subst (λ (n : ℕ). Rose n now.faults) stands.1.files.0 rose,
      (
        take put (capture_record d),
        length-take-le put (capture_record d) (omega (arith, less)),
        grow_more began mid now pairs k (take put (capture_record d)) stands.1 there changed,
      ),
    );
  },
)

-- A rack that was given to an outlet: what it is after, by what the outlet was told of the pairs that it was given.

-- a rack as an outlet has it, with the file of service 0 at a place
abbrev pub seen : ℕ → RackTold → RackSeen
seen first rack = record { first = first; count = rack.count; faults = rack.faults; files = rack.files }

abbrev pub BeginsWith : RackSeen → RackTold → Type 0
BeginsWith began rack = (began.count ≡ rack.count) × (began.faults ≡ rack.faults) × (began.files ≡ rack.files)

-- what it began with is that rack, and it was given nothing
began_is : (began : RackSeen) (first : ℕ) (rack : RackTold) → began.first ≡ first → BeginsWith began rack → began ≡ seen first rack
began_is began first rack place same =
    ap (λ (n : ℕ). let s : RackSeen = record { first = n; count = began.count; faults = began.faults; files = began.files } in s) place
    ∙ ap (λ (n : ℕ). let s : RackSeen = record { first = first; count = n; faults = began.faults; files = began.files } in s) same.0
    ∙ ap (λ (n : ℕ). let s : RackSeen = record { first = first; count = rack.count; faults = n; files = began.files } in s) same.1
    ∙ ap (λ (f : Option (List File)). let s : RackSeen = record { first = first; count = rack.count; faults = rack.faults; files = f } in s) same.2

given_after : (began : RackSeen) (first now_first : ℕ) (rack had : RackTold) (progress : Progress) (borrow now_borrow : ℕ) (pairs : List (ℕ × List ℕ)) → began ≡ seen first rack
    → Delivers (StandsFor began (seen first rack) Whole borrow) (StandsFor began (seen now_first had) progress now_borrow) pairs
    → (borrow ≡ now_borrow) × WasGiven (seen first rack) (seen now_first had) progress pairs
given_after began first now_first rack had progress borrow now_borrow pairs is delivers =
    subst (λ (b : RackSeen). Delivers (StandsFor b (seen first rack) Whole borrow) (StandsFor b (seen now_first had) progress now_borrow) pairs) is delivers
    ((borrow, []) ∷ []) (refl, record { first = refl; count = refl; later = omega arith; files = (refl, grow-nil rack.files) })

whole_given : (first now_first : ℕ) (rack now : RackTold) (progress : Progress) (pairs : List (ℕ × List ℕ)) → failures progress ≡ 0
    → WasGiven (seen first rack) (seen now_first now) progress pairs → WritesAll first rack now pairs
whole_given first now_first rack now Whole pairs none given = record { files = given.files.1; count = given.count; kept = given.files.0 }
whole_given first now_first rack now (Stopped service put) pairs none given = absurd (omega (arith, none))
whole_given first now_first rack now Passed pairs none given = absurd (omega (arith, none))

-- The rack `now` is the one that the outlet has at the end, which holds the same borrow.

pub writes_all : (began : RackSeen) (first now_first : ℕ) (rack had now : RackTold) (progress : Progress) (borrow now_borrow : ℕ) (pairs : List (ℕ × List ℕ)) → failures progress ≡ 0
    → began.first ≡ first → BeginsWith began rack
    → Delivers (StandsFor began (seen first rack) Whole borrow) (StandsFor began (seen now_first had) progress now_borrow) pairs
    → (borrow ≡ now_borrow → now ≡ had) → WritesAll first rack now pairs
writes_all began first now_first rack had now progress borrow now_borrow pairs none place same delivers is =
    let given = given_after began first now_first rack had progress borrow now_borrow pairs (began_is began first rack place same) delivers in
    subst (λ (r : RackTold). WritesAll first rack r pairs) (sym (is given.0)) (whole_given first now_first rack had progress pairs none given.1)

part_given : (first now_first : ℕ) (rack now : RackTold) (progress : Progress) (front : List (ℕ × List ℕ)) (service : ℕ) (datagram : List ℕ)
    → WasGiven (seen first rack) (seen now_first now) progress front → Refuses (seen first rack) (seen now_first now) progress service datagram → WritesPartOf first rack now front service datagram
part_given first now_first rack now Whole front service datagram given refuses = absurd refuses
part_given first now_first rack now Passed front service datagram given refuses = absurd refuses
part_given first now_first rack now (Stopped at put) front service datagram given refuses = record {
  count = put;
  less = refuses.1;
  files = grow_exact rack.files now.files first at service given.files.1.0 (take put (capture_record datagram)) front refuses.0
      (given.files.1.1 ∙ sym (length-take-le put (capture_record datagram) (omega (arith, refuses.1)))) given.files.1.2
      (subst (λ (i : ℕ). EndsWith rack.files now.files (i + service) (take put (capture_record datagram))) given.first refuses.2);
  places = given.count;
  rose = given.files.0;
}

pub part_of : (began : RackSeen) (first now_first : ℕ) (rack had now : RackTold) (progress : Progress) (borrow now_borrow : ℕ) (front : List (ℕ × List ℕ)) (service : ℕ) (datagram : List ℕ)
    → began.first ≡ first → BeginsWith began rack
    → Delivers (StandsFor began (seen first rack) Whole borrow) (StandsFor began (seen now_first had) progress now_borrow) front → Refuses began (seen now_first had) progress service datagram
    → (borrow ≡ now_borrow → now ≡ had) → WritesPartOf first rack now front service datagram
part_of began first now_first rack had now progress borrow now_borrow front service datagram place same delivers refuses is =
    let began_here = began_is began first rack place same in
    let given = given_after began first now_first rack had progress borrow now_borrow front began_here delivers in
    subst (λ (r : RackTold). WritesPartOf first rack r front service datagram) (sym (is given.0)) (part_given first now_first rack had progress front service datagram given.1
    (subst (λ (b : RackSeen). Refuses b (seen now_first had) progress service datagram) began_here refuses))
