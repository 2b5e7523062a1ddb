-- A payload written after a header makes the packet.
use Rattle.std.proofs.Common.{◌≡◌, ℕ, ◌≤◌, Bool, List, ◌++◌, length, drop, length-drop, ap, ◌∙◌, arith}
use Rattle.std.proofs.lemmas.List.{append-nil, drop_all}
use borrow.Rule.Slice.PartMut.{put_mid}
use Rattle.ts_spec.specs.Packet.{packet_bytes}
use Rattle.ts_packet.proofs.packet.write_packet.Goals as goal

-- 184 bytes written from byte 4 on are the packet's payload, whatever stood there
payload_put : (pid : ℕ) (starts : Bool) (counter : ℕ) (behind payload : List ℕ) → length behind ≤ 184
    → put_mid 4 184 (packet_bytes pid starts counter behind) payload ≡ packet_bytes pid starts counter payload
payload_put pid starts counter behind payload fits =
    ap (λ (t : List ℕ). packet_bytes pid starts counter (payload ++ t)) (drop_all 184 behind fits)
    ∙ ap (packet_bytes pid starts counter) (append-nil payload)

pub returns : goal.returns
returns c =
    let room : length (drop 4 c.args.into.now) ≤ 184 = omega (arith, length-drop 4 c.args.into.now) in
    record {
      written = ap (λ (x : List ℕ). put_mid 4 184 x c.copy_from_slice.new.self) c.write_header.ensures.written
          ∙ payload_put c.args.pid c.args.starts c.args.counter (drop 4 c.args.into.now) c.copy_from_slice.new.self room
          ∙ ap (packet_bytes c.args.pid c.args.starts c.args.counter) c.copy_from_slice.ensures.after;
    }
