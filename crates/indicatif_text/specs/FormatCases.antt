-- Worked cases of the formatters' texts.
use Rattle.std.specs.Prelude.{◌≡◌, ◌*◌, ◌^◌, ◌-◌, codes}
use Rattle.indicatif_text.specs.Format.{nanos_per_second, human_duration, short_duration, formatted_duration, binary_bytes, decimal_bytes, human_count, human_float_count}

abbrev pub DurationCases : Type 0
DurationCases = (human_duration 89499000000 ≡ codes "89 seconds") × (human_duration 89500000000 ≡ codes "2 minutes")
    × (human_duration 0 ≡ codes "0 seconds") × (human_duration 499000000 ≡ codes "0 seconds") × (human_duration 500000000 ≡ codes "1 second")
    × (human_duration 1499000000 ≡ codes "1 second") × (human_duration (365 * 86400 * nanos_per_second) ≡ codes "52 weeks")
    × (human_duration (2 ^ 64 - 1) ≡ codes "585 years")

abbrev pub ShortDurationCases : Type 0
ShortDurationCases = (short_duration (4 * nanos_per_second) ≡ codes "4s") × (short_duration (2 ^ 64 - 1) ≡ codes "585y")

abbrev pub FormattedDurationCases : Type 0
FormattedDurationCases = (formatted_duration (90061 * nanos_per_second) ≡ codes "1d 01:01:01") × (formatted_duration 0 ≡ codes "00:00:00")
    × (formatted_duration (86400 * nanos_per_second - 1) ≡ codes "23:59:59") × (formatted_duration (2 ^ 64 - 1) ≡ codes "213503d 23:34:33")

abbrev pub BinaryBytesCases : Type 0
BinaryBytesCases = (binary_bytes 0 ≡ codes "0 B") × (binary_bytes 1023 ≡ codes "1023 B") × (binary_bytes 1024 ≡ codes "1.00 KiB")
    × (binary_bytes 1048575 ≡ codes "1024.00 KiB") × (binary_bytes (2 ^ 64 - 1) ≡ codes "16.00 EiB")

abbrev pub DecimalBytesCases : Type 0
DecimalBytesCases = (decimal_bytes 999 ≡ codes "999 B") × (decimal_bytes 999999 ≡ codes "1000.00 kB") × (decimal_bytes 1005 ≡ codes "1.00 kB")
    × (decimal_bytes 1015 ≡ codes "1.02 kB") × (decimal_bytes (2 ^ 64 - 1) ≡ codes "18.45 EB")

abbrev pub CountCases : Type 0
CountCases = (human_count 0 ≡ codes "0") × (human_count 999 ≡ codes "999") × (human_count 1000 ≡ codes "1,000")
    × (human_count 1234567 ≡ codes "1,234,567") × (human_count (2 ^ 64 - 1) ≡ codes "18,446,744,073,709,551,615")

abbrev pub FloatCountCases : Type 0
FloatCountCases = (human_float_count 0 5 4 ≡ codes "0") × (human_float_count 1 3 4 ≡ codes "0.3333") × (human_float_count 2 3 4 ≡ codes "0.6667")
    × (human_float_count 85 2 4 ≡ codes "42.5") × (human_float_count 199999999 20000 4 ≡ codes "10,000")
    × (human_float_count 2469 2 0 ≡ codes "1,234") × (human_float_count 2471 2 0 ≡ codes "1,236")
    × (human_float_count (2 ^ 128 - 1) 1 4 ≡ codes "340,282,366,920,938,463,463,374,607,431,768,211,455")
