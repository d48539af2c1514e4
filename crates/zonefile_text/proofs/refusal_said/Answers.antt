-- `zonefile_text::refusal_said` meets its contract.
use mathlib.Core.Path.{refl}
use native.Mathlib.Omega.{arith}
use Rattle.zonefile_text.specs.ZonefileText.{short_file_text, version2_text, version_text, lengths_text, offset_text, pair_text, refusal_text}
use Rattle.zonefile_text.proofs.ZonefileLaws.{other_text}
use Rattle.zonefile_text.proofs.refusal_said.Goals as goal

pub returns-in-TooShort : goal.returns-in-TooShort
unfolding refusal_text short_file_text
returns-in-TooShort c = rw c.in-TooShort.is (refl, omega arith)

pub returns-in-IsVersion2 : goal.returns-in-IsVersion2
unfolding refusal_text version2_text
returns-in-IsVersion2 c = rw c.in-IsVersion2.is (refl, omega arith)

pub returns-in-VersionUnknown : goal.returns-in-VersionUnknown
unfolding refusal_text version_text
returns-in-VersionUnknown c = rw c.in-VersionUnknown.is (refl, omega arith)

pub returns-in-LengthsDisagree : goal.returns-in-LengthsDisagree
unfolding refusal_text lengths_text
returns-in-LengthsDisagree c = rw c.in-LengthsDisagree.is (refl, omega arith)

pub returns-in-OffsetDisagrees : goal.returns-in-OffsetDisagrees
unfolding refusal_text offset_text
returns-in-OffsetDisagrees c = rw c.in-OffsetDisagrees.is (refl, omega arith)

pub returns-in_default : goal.returns-in_default
unfolding pair_text
returns-in_default c =
    (other_text _ c.in_default.not-TooShort c.in_default.not-IsVersion2 c.in_default.not-VersionUnknown c.in_default.not-LengthsDisagree c.in_default.not-OffsetDisagrees, omega arith)
