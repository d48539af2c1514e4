-- "per event a kind (1 SMP, 2 OPEN, 3 primitive, 4 broadcast frame, 5 IDENTIFY, 6 leaving), phy, carried group, two length bytes
-- (big-endian), payload: 1 byte for kind 3, 8 for kind 5, none for kind 6."
use Rattle.std.specs.Prelude.{cond, ◌&&◌, List, ℕ, ◌+◌, ◌*◌, eqb, ltb, length, get_or, drop}
use Rattle.call_words.specs.Gives.{Given, smp_gives, open_gives, primitive_gives, broadcast_gives, identify_gives, leaving_gives, unknown}

-- "Another kind, or another length for these three, prints number and K and changes nothing."
unfoldable pub gives : ℕ → ℕ → ℕ → List ℕ → List ℕ → List ℕ → Given
gives kind phy carried payload phys permissions =
    cond (eqb kind 1) (smp_gives phys permissions phy carried payload)
    (cond (eqb kind 2) (open_gives phys permissions phy payload)
    (cond (eqb kind 3 && eqb (length payload) 1) (primitive_gives phys permissions phy payload)
    (cond (eqb kind 4) (broadcast_gives phys permissions phy payload)
    (cond (eqb kind 5 && eqb (length payload) 8) (identify_gives phys permissions phy payload)
    (cond (eqb kind 6 && eqb (length payload) 0) (leaving_gives phys permissions phy)
    (unknown phys permissions))))))

-- a whole event: five bytes of header, then the payload
unfoldable pub event_gives : List ℕ → List ℕ → List ℕ → Given
event_gives event phys permissions = gives (get_or event 0 0) (get_or event 1 0) (get_or event 2 0) (drop 5 event) phys permissions

-- how many bytes the event at the front of `bytes` has: 0 where it is cut off, or where there is none
unfoldable pub event_length : List ℕ → ℕ
event_length bytes =
    cond (ltb (length bytes) 5) 0
    (cond (ltb (length bytes) (5 + (get_or bytes 3 0 * 256 + get_or bytes 4 0))) 0
    (5 + (get_or bytes 3 0 * 256 + get_or bytes 4 0)))
