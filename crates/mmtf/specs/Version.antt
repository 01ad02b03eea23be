-- The version of the library: the one place that has it. checks/architecture holds the header to it. No lemma stands here. Assumes nothing.
use Rattle.std.specs.Prelude.{ℕ, ◌+◌, ◌*◌}

abbrev pub version_major : ℕ
version_major = 0

abbrev pub version_minor : ℕ
version_minor = 10

abbrev pub version_patch : ℕ
version_patch = 0

-- as a number that a later version is above
abbrev pub version_number : ℕ
version_number = version_major * 10000 + version_minor * 100 + version_patch
