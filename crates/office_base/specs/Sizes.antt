-- The size of an object, in bytes.
use Rattle.std.specs.Prelude.{ℕ, ◌*◌, ◌^◌}

-- the largest object: 5 TiB (S3 User Guide, "Uploading objects"); own: 5 TiB is 5 * 2 ^ 40 bytes
abbrev pub largest_size : ℕ
largest_size = 5 * 2 ^ 40
