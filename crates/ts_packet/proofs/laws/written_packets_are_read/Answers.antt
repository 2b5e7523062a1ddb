use Rattle.std.proofs.Common.{◌≡◌, true, false, ◌+◌, ◌*◌, ◌/◌, ◌%◌, bit_and, refl, arith}
use Rattle.ts_spec.specs.Packet.{fields_of, is_packet}
use Rattle.ts_packet.proofs.Masks.{upper_bits, lower_bits}
use Rattle.ts_packet.proofs.laws.written_packets_are_read.Goals as goal

pub returns-clause-readable : goal.returns-clause-readable
unfolding is_packet
returns-clause-readable c pid true counter payload of_counter of_pid of_payload =
    let no_error : bit_and (64 + pid / 256) 128 ≡ 0 = upper_bits 5 2 4 (pid / 256) (omega arith) in
    let no_field : bit_and (16 + counter) 48 ≡ 16 = upper_bits 4 1 3 counter (omega arith) in
    let clear : bit_and (16 + counter) 192 ≡ 0 = upper_bits 4 1 12 counter (omega arith) in
    rw (no_error, no_field, clear, of_payload) refl
returns-clause-readable c pid false counter payload of_counter of_pid of_payload =
    let no_error : bit_and (0 + pid / 256) 128 ≡ 0 = upper_bits 5 0 4 (pid / 256) (omega arith) in
    let no_field : bit_and (16 + counter) 48 ≡ 16 = upper_bits 4 1 3 counter (omega arith) in
    let clear : bit_and (16 + counter) 192 ≡ 0 = upper_bits 4 1 12 counter (omega arith) in
    rw (no_error, no_field, clear, of_payload) refl

pub returns-clause-fields : goal.returns-clause-fields
unfolding fields_of
returns-clause-fields c pid true counter payload of_counter of_pid =
    let pid_upper : bit_and (64 + pid / 256) 31 ≡ pid / 256 = lower_bits 5 2 (pid / 256) (omega arith) in
    let starts : bit_and (64 + pid / 256) 64 ≡ 64 = upper_bits 5 2 2 (pid / 256) (omega arith) in
    let no_field : bit_and (16 + counter) 48 ≡ 16 = upper_bits 4 1 3 counter (omega arith) in
    let of_four : bit_and (16 + counter) 15 ≡ counter = lower_bits 4 1 counter (omega arith) in
    let whole : pid / 256 * 256 + pid % 256 ≡ pid = omega arith in
    rw (pid_upper, starts, no_field, of_four, whole) refl
returns-clause-fields c pid false counter payload of_counter of_pid =
    let pid_upper : bit_and (0 + pid / 256) 31 ≡ pid / 256 = lower_bits 5 0 (pid / 256) (omega arith) in
    let starts : bit_and (0 + pid / 256) 64 ≡ 0 = upper_bits 5 0 2 (pid / 256) (omega arith) in
    let no_field : bit_and (16 + counter) 48 ≡ 16 = upper_bits 4 1 3 counter (omega arith) in
    let of_four : bit_and (16 + counter) 15 ≡ counter = lower_bits 4 1 counter (omega arith) in
    let whole : pid / 256 * 256 + pid % 256 ≡ pid = omega arith in
    rw (pid_upper, starts, no_field, of_four, whole) refl
