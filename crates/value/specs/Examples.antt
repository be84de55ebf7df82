-- Worked examples, one to a line. Loads are in 1/16,000 digit. Assumes nothing.
use Rattle.std.specs.Prelude.{◌≡◌, ℕ, ◌*◌, true, false, List, [], ◌∷◌, ℤ, pos, neg_ℤ, Some, None, codes}
use Rattle.value.specs.Fitting.{fits}
use Rattle.value.specs.Output.{shape, numbered_format, full_shown, format_block}
use Rattle.value.specs.Plain.{plain_text, line}
use Rattle.value.specs.Rounding.{nearest}
use Rattle.value.specs.Scaled.{scaled, in_digits}
use Rattle.value.specs.Status.{status_byte}
use Rattle.value.specs.declared.block.Measured.{Measured}
use Rattle.value.specs.declared.layout.Layout.{Layout}
use Rattle.value.specs.declared.layout.Layout.TheVariants.{ThreeBytes, ThreeBytesStatus, ThreeBytesStatusReversed, TwoBytes, TwoBytesReversed, Decimal, DecimalStatus}
use Rattle.value.specs.declared.output.OutputFormat.{OutputFormat}
use Rattle.value.specs.declared.plain.Plain.TheVariants.{Done, Refused, Digit, ThreeDigits, Signed}

-- a span of 1,000,000 digits
abbrev span : ℤ
span = pos (1000000 * 16000)

abbrev kept : Layout → OutputFormat
kept l = record { layout = l; ended = true }

abbrev dropped : Layout → OutputFormat
dropped l = record { layout = l; ended = false }

-- a value with no mark in its status
abbrev plainly : ℤ → Measured
plainly v = record { value = v; status = 8 }

-- one value, at nominal value 0 and address 5
abbrev one : Layout → ℤ → List ℕ
one l v = format_block (dropped l) 0 5 (plainly v ∷ [])

-- how 1,000,500 digits of the span show: as 3001.5 of 3000, with step 5, and below 0
abbrev pub ShownExamples : Type 0
ShownExamples =
    (scaled (pos (1000500 * 16000)) 1000000 span 1 ≡ pos 1000500)
    × (scaled (pos (1000500 * 16000)) 3000 span 1 ≡ pos 3002)
    × (scaled (pos (1000500 * 16000)) 3000 span 5 ≡ pos 3000)
    × (scaled (neg_ℤ (pos (1000500 * 16000))) 3000 span 1 ≡ neg_ℤ (pos 3002))
    × (scaled (pos (200003 * 8000)) 1000000 span 1 ≡ pos 100002)
    × (scaled (neg_ℤ (pos 7999)) 1000000 span 1 ≡ pos 0)
    × (in_digits (pos (200003 * 8000)) ≡ pos 100002)
    × (in_digits (neg_ℤ (pos 8000)) ≡ neg_ℤ (pos 1))
    × (nearest (pos 5) (neg_ℤ (pos 2)) ≡ pos 0)
    × (full_shown (kept TwoBytes) 0 ≡ 20000)
    × (full_shown (kept TwoBytes) 3000 ≡ 3000)

-- the bytes of a value
abbrev pub ByteExamples : Type 0
ByteExamples =
    (format_block (kept ThreeBytesStatus) 0 5 (plainly (pos 5120000) ∷ []) ≡ 0x4E ∷ 0x20 ∷ 0x00 ∷ 0x08 ∷ 0x0D ∷ 0x0A ∷ [])
    × (format_block (kept ThreeBytesStatusReversed) 0 5 (plainly (pos 5120000) ∷ []) ≡ 0x08 ∷ 0x00 ∷ 0x20 ∷ 0x4E ∷ 0x0D ∷ 0x0A ∷ [])
    × (format_block (kept TwoBytes) 40000 5 (plainly (pos 0) ∷ []) ≡ 0x7F ∷ 0xFF ∷ 0x0D ∷ 0x0A ∷ [])
    × (format_block (kept TwoBytes) 40000 5 (plainly (neg_ℤ (pos 1)) ∷ []) ≡ 0x80 ∷ 0x00 ∷ 0x0D ∷ 0x0A ∷ [])
    × (one ThreeBytes (pos 8388606) ≡ 0x7F ∷ 0xFF ∷ 0xFE ∷ 0x00 ∷ [])
    × (one ThreeBytes (pos 8388607) ≡ 0x7F ∷ 0xFF ∷ 0xFF ∷ 0x00 ∷ [])
    × (one ThreeBytes (neg_ℤ (pos 8388607)) ≡ 0x80 ∷ 0x00 ∷ 0x01 ∷ 0x00 ∷ [])
    × (one ThreeBytes (neg_ℤ (pos 99999999)) ≡ 0x80 ∷ 0x00 ∷ 0x00 ∷ 0x00 ∷ [])
    × (one TwoBytesReversed (neg_ℤ (pos 2)) ≡ 0xFE ∷ 0xFF ∷ [])
    × (one Decimal (pos 0) ≡ codes "+0000000")
    × (one Decimal (neg_ℤ (pos 1638400)) ≡ codes "-1638400")
    × (one DecimalStatus (pos 500000) ≡ codes "+0500000,05,008")

-- which values fit
abbrev pub EdgeExamples : Type 0
EdgeExamples =
    (fits (shape ThreeBytes).limits 0 (pos 8388606) ≡ true)
    × (fits (shape ThreeBytes).limits 0 (pos 8388607) ≡ false)
    × (fits (shape ThreeBytes).limits 0 (neg_ℤ (pos 8388607)) ≡ true)
    × (fits (shape ThreeBytes).limits 0 (neg_ℤ (pos 8388608)) ≡ false)
    × (fits (shape TwoBytes).limits 30000 (pos 32766) ≡ true)
    × (fits (shape TwoBytes).limits 30000 (pos 32767) ≡ false)
    × (fits (shape TwoBytes).limits 30000 (neg_ℤ (pos 32767)) ≡ true)
    × (fits (shape TwoBytes).limits 30000 (neg_ℤ (pos 32768)) ≡ false)
    × (fits (shape TwoBytes).limits 30001 (pos 0) ≡ false)
    × (fits (shape Decimal).limits 0 (pos 1638399) ≡ true)
    × (fits (shape Decimal).limits 0 (pos 1638400) ≡ false)
    × (fits (shape Decimal).limits 0 (neg_ℤ (pos 1638399)) ≡ true)
    × (fits (shape Decimal).limits 0 (neg_ℤ (pos 1638400)) ≡ false)

-- blocks, numbers, the status and plain answers
abbrev pub AnswerExamples : Type 0
AnswerExamples =
    (format_block (kept Decimal) 0 5 (plainly (pos 1) ∷ plainly (neg_ℤ (pos 2)) ∷ []) ≡ codes "+0000001\r\n-0000002\r\n")
    × (format_block (dropped Decimal) 0 5 (plainly (pos 1) ∷ plainly (neg_ℤ (pos 2)) ∷ []) ≡ codes "+0000001-0000002")
    × (format_block (kept TwoBytes) 0 5 (plainly (pos 1) ∷ plainly (pos 2) ∷ []) ≡ 0 ∷ 1 ∷ 0 ∷ 2 ∷ 13 ∷ 10 ∷ [])
    × (format_block (dropped TwoBytes) 0 5 (plainly (pos 1) ∷ plainly (pos 2) ∷ []) ≡ 0 ∷ 1 ∷ 0 ∷ 2 ∷ [])
    × (numbered_format 9 ≡ Some (kept DecimalStatus))
    × (numbered_format 35 ≡ Some (dropped Decimal))
    × (numbered_format 1 ≡ None)
    × (numbered_format 64 ≡ None)
    × (status_byte true true false ≡ 8)
    × (status_byte false false true ≡ 15)
    × (line (plain_text Done) ≡ codes "0\r\n")
    × (line (plain_text Refused) ≡ codes "?\r\n")
    × (line (plain_text (Digit 4)) ≡ codes "4\r\n")
    × (line (plain_text (ThreeDigits 50)) ≡ codes "050\r\n")
    × (line (plain_text (Signed (neg_ℤ (pos 1599999)))) ≡ codes "-01599999\r\n")

abbrev pub Examples : Type 0
Examples = ShownExamples × (ByteExamples × (EdgeExamples × AnswerExamples))
