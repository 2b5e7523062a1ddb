-- Settings to try the definitions on: a lecture in sliced frames and files in SNDUs.
use Rattle.std.specs.Prelude.{ℕ, pos, List, [], ◌∷◌, codes}
use Rattle.toml.specs.Data.{Data, string, integer, array, table, no_items, item, Members, no_members, member}

abbrev pub number : ℕ → Data
number n = integer (pos n)

abbrev pub one_text : List ℕ → Data
one_text text = array (item (string text) no_items)

abbrev pub int : Data
int = table (
    member (codes "network_id") (number 2) (
    member (codes "original_network_id") (number 3) (
    member (codes "pid") (number 600) (
    member (codes "platform_id") (number 1) (
    member (codes "transport_stream_id") (number 4) no_members)))))

-- a lecture whose window has this length, from slot 100 on
abbrev pub lecture : ℕ → Members
lecture slots =
    member (codes "component_tag") (number 1) (
    member (codes "kind") (string (codes "fec")) (
    member (codes "mode") (string (codes "sliced")) (
    member (codes "name") (string (codes "lecture")) (
    member (codes "pid") (number 512) (
    member (codes "rows") (number 1024) (
    member (codes "rules") (one_text (codes "239.1.0.0/16")) (
    member (codes "service_id") (number 10) (
    member (codes "window_length") (number slots) (
    member (codes "window_start") (number 100) no_members)))))))))

-- files on this PID
abbrev pub files : Data → Members
files pid =
    member (codes "component_tag") (number 2) (
    member (codes "kind") (string (codes "ule")) (
    member (codes "name") (string (codes "files")) (
    member (codes "pid") pid (
    member (codes "rules") (one_text (codes "239.2.0.0/16")) (
    member (codes "service_id") (number 10) no_members)))))

-- both, recorded so, in cycles of so many slots
abbrev pub both : List ℕ → ℕ → ℕ → Data → Members
both recording slots cycle pid =
    member (codes "cycle") (number cycle) (
    member (codes "int") int (
    member (codes "recording") (string recording) (
    member (codes "service") (array (item (table (lecture slots)) (item (table (files pid)) no_items))) no_members)))

-- the same with a key that settings do not have
abbrev pub with_speed : Members → Members
with_speed settings = member (codes "speed") (number 1) settings

-- from the third record on, the files are on this PID
abbrev pub moved_files : Data → Members
moved_files pid = member (codes "name") (string (codes "files")) (member (codes "pid") pid no_members)

abbrev pub files_move : Data → Members
files_move pid =
    member (codes "at") (number 3) (
    member (codes "service") (array (item (table (moved_files pid)) no_items)) no_members)

-- files that move to this PID, with an INT or without, in cycles of 100 slots
abbrev pub moving_from : Data → Members → Members
moving_from pid behind =
    member (codes "change") (array (item (table (files_move pid)) no_items)) (
    member (codes "cycle") (number 100) behind)

abbrev pub files_alone : Members
files_alone = member (codes "service") (array (item (table (files (number 513))) no_items)) no_members

abbrev pub moving : Data → Members
moving pid = moving_from pid (member (codes "int") int files_alone)

abbrev pub moving_unsignalled : Members
moving_unsignalled = moving_from (number 514) files_alone
