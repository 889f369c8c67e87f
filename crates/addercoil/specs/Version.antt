-- RULES 20.8: the version of the library, of its header and of the bytes of its tables: a program that was built with one header is not to be linked with the archive of another.
use Rattle.std.specs.Prelude.{ℕ}

-- 10,000 times the major number, 100 times the minor one, and the patch: 0.10.0
abbrev pub version : ℕ
version = 1000
