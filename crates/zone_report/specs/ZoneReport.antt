-- "51h REPORT ZONE PERMISSION (our layout)."
use Rattle.std.specs.Prelude.{List, [], ◌∷◌, ℕ, ◌-◌, min, length, get_or}
use Rattle.shown_rows.specs.ShownRows.{shown_rows}
use Rattle.tables.specs.Refusals.{Check, refuse, below, differ, off, first_refusal}
use Rattle.tables.specs.Phys.{empty_set}
use Rattle.requests.specs.Requests.{right, Reply, replied}

-- "Start is byte 6"
abbrev pub start_row : List ℕ → ℕ
start_row request = get_or request 6 0

-- "No right: 01h. M not 8 or L not 1: 03h. Start is byte 6; above 127: 11h."
abbrev pub report_checks : ℕ → List ℕ → List ℕ → ℕ → ℕ → List ℕ → List Check
report_checks w phys permissions phy carried request =
    refuse 0x01 (off (right w phys permissions phy carried))
    ∷ refuse 0x03 (differ (length request) 8)
    ∷ refuse 0x03 (differ (get_or request 3 0) 1)
    ∷ refuse 0x11 (below 127 (start_row request))
    ∷ []

-- "Rows r: the least of byte 7, 63 and 128 - start."
unfoldable pub row_count : List ℕ → ℕ
row_count request = min (min (get_or request 7 0) 63) (128 - start_row request)

-- "byte 6 start, byte 7 r, 4, 5 and 8-11 zero, then r rows": the bytes from 4 on. "Reports show P in document 01's rows."
unfoldable pub rows : ℕ → List ℕ → List ℕ → List ℕ
rows w permissions request =
    0 ∷ 0 ∷ start_row request ∷ row_count request ∷ 0 ∷ 0 ∷ 0 ∷ 0
    ∷ shown_rows w permissions (start_row request) (row_count request)

-- "Response: byte 3 is 2 + 4r" (its length in dwords). "Set empty."
unfoldable pub report_reply : ℕ → List ℕ → List ℕ → ℕ → ℕ → List ℕ → Reply
report_reply w phys permissions phy carried request =
    replied (first_refusal (report_checks w phys permissions phy carried request))
    (record {
      result = 0x00;
      rest = rows w permissions request;
      set = empty_set;
      phys = phys;
      permissions = permissions;
    })
    phys permissions
