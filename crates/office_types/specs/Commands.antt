-- The number of a command's kind, and when two commands are the same.
use Rattle.std.specs.Prelude.{ℕ, Bool, true, false, ◌&&◌, ◌==◌, List}
use Rattle.std.specs.Str.{bytes_eq}
use Rattle.std.specs.Cmp.Lexicographic.{pointwise}
use Rattle.class_rules.specs.Classes.{rank_of}
use Rattle.class_rules.specs.declared.class.Class.{Class}
use Rattle.office_base.specs.Tags.{Tag}
use Rattle.stacks.specs.Stacks.{same_id}
use Rattle.office_types.specs.declared.command.Command.{Command}
use Rattle.office_types.specs.declared.command.Command.TheVariants as command

-- the number of each kind in the journal (own)
abbrev pub kind_of : Command → ℕ
kind_of (command.CreateBucket bucket) = 0x01
kind_of (command.SetVersioning bucket enabled) = 0x02
kind_of (command.SetRules bucket rules) = 0x03
kind_of (command.DropRules bucket) = 0x04
kind_of (command.Put bucket key size class tags) = 0x05
kind_of (command.Delete bucket key) = 0x06
kind_of (command.DeleteVersion bucket key id) = 0x07
kind_of (command.SetTags bucket key id tags) = 0x08
kind_of (command.StartUpload bucket key class tags) = 0x09
kind_of (command.PutPart bucket upload part size) = 0x0A
kind_of (command.Complete bucket upload) = 0x0B
kind_of (command.Abort bucket upload) = 0x0C
kind_of (command.Act bucket) = 0x0D
kind_of (command.SetTariff tariff) = 0x0E
kind_of (command.Close month) = 0x0F

-- two classes are the same
abbrev pub same_class : Class → Class → Bool
same_class a b = rank_of a == rank_of b

-- two tags are the same: equal keys and equal values
abbrev pub same_tag : Tag → Tag → Bool
same_tag a b = bytes_eq a.0 b.0 && bytes_eq a.1 b.1

-- the same tags in the same order
abbrev pub same_tags : List Tag → List Tag → Bool
same_tags = pointwise same_tag

-- two booleans are the same
abbrev pub same_flag : Bool → Bool → Bool
same_flag true b = b
same_flag false true = false
same_flag false false = true

-- two commands that may carry a token are the same: equal kinds and equal fields
unfoldable pub same_command : Command → Command → Bool
same_command (command.CreateBucket a) (command.CreateBucket b) = bytes_eq a b
same_command (command.SetVersioning a on) (command.SetVersioning b up) = bytes_eq a b && same_flag on up
same_command (command.DropRules a) (command.DropRules b) = bytes_eq a b
same_command (command.Put a key size class tags) (command.Put b other bytes cold labels) =
    bytes_eq a b && bytes_eq key other && (size == bytes) && same_class class cold && same_tags tags labels
same_command (command.Delete a key) (command.Delete b other) = bytes_eq a b && bytes_eq key other
same_command (command.DeleteVersion a key id) (command.DeleteVersion b other version) =
    bytes_eq a b && bytes_eq key other && same_id id version
same_command (command.SetTags a key id tags) (command.SetTags b other version labels) =
    bytes_eq a b && bytes_eq key other && same_id id version && same_tags tags labels
same_command (command.StartUpload a key class tags) (command.StartUpload b other cold labels) =
    bytes_eq a b && bytes_eq key other && same_class class cold && same_tags tags labels
same_command (command.PutPart a upload part size) (command.PutPart b number place bytes) =
    bytes_eq a b && (upload == number) && (part == place) && (size == bytes)
same_command (command.Complete a upload) (command.Complete b number) = bytes_eq a b && (upload == number)
same_command (command.Abort a upload) (command.Abort b number) = bytes_eq a b && (upload == number)
same_command (command.Close month) (command.Close other) = month == other
same_command a b = false
