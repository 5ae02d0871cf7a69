-- Commands that compare as the same.
use Rattle.std.proofs.Common.{◌≡◌, ℕ, Bool, true, false, List, [], ◌∷◌, refl, sym, ap, eqb}
use Rattle.std.proofs.lemmas.Bool.{eqb-true, eq-eqb, and_parts, and_from}
use Rattle.std.specs.Str.{bytes_eq}
use Rattle.std.specs.Cmp.Lexicographic.{same_text}
use Rattle.class_rules.specs.Classes.{rank_of}
use Rattle.class_rules.specs.declared.class.Class.{Class}
use Rattle.class_rules.specs.declared.class.Class.TheVariants as class
use Rattle.office_base.specs.Tags.{Tag}
use Rattle.office_base.specs.declared.version_id.VersionId.{VersionId}
use Rattle.office_base.specs.declared.version_id.VersionId.TheVariants.{Null, Number}
use Rattle.stacks.specs.Stacks.{same_id}
use Rattle.office_types.specs.declared.command.Command.{Command}
use Rattle.office_types.specs.declared.command.Command.TheVariants as command
use Rattle.office_types.specs.Commands.{same_class, same_tag, same_tags, same_flag, same_command}
use Rattle.office_types.specs.Tokens.{takes_token}

eqb_refl : (n : ℕ) → eqb n n ≡ true
eqb_refl n = eq-eqb n n refl

bytes_is : (a b : List ℕ) → bytes_eq a b ≡ true → a ≡ b
bytes_is a b e = same_text a b (sym e)

bytes_self : (a : List ℕ) → bytes_eq a a ≡ true
bytes_self [] = refl
bytes_self (x ∷ xs) = and_from _ _ (eqb_refl x) (bytes_self xs)

class_is : (a b : Class) → same_class a b ≡ true → a ≡ b
class_is class.Standard class.Standard e = refl
class_is class.StandardIa class.StandardIa e = refl
class_is class.OnezoneIa class.OnezoneIa e = refl
class_is class.GlacierIr class.GlacierIr e = refl
class_is class.Glacier class.Glacier e = refl
class_is class.DeepArchive class.DeepArchive e = refl
class_is a b e = absurd cc

tag_is : (a b : Tag) → same_tag a b ≡ true → a ≡ b
tag_is a b e = let parts = and_parts (bytes_eq a.0 b.0) (bytes_eq a.1 b.1) e in λ i. (bytes_is a.0 b.0 parts.0 i, bytes_is a.1 b.1 parts.1 i)

tags_are : (a b : List Tag) → same_tags a b ≡ true → a ≡ b
tags_are [] [] e = refl
tags_are [] (b ∷ bs) e = absurd cc
tags_are (a ∷ more) [] e = absurd cc
tags_are (a ∷ more) (b ∷ bs) e = let parts = and_parts (same_tag a b) (same_tags more bs) e in λ i. tag_is a b parts.0 i ∷ tags_are more bs parts.1 i

id_is : (a b : VersionId) → same_id a b ≡ true → a ≡ b
id_is Null Null e = refl
id_is (Number a) (Number b) e = ap Number (eqb-true a b e)
id_is Null (Number b) e = absurd cc
id_is (Number a) Null e = absurd cc

flag_is : (a b : Bool) → same_flag a b ≡ true → a ≡ b
flag_is true true e = refl
flag_is false false e = refl
flag_is a b e = absurd cc

class_self : (a : Class) → same_class a a ≡ true
class_self a = eqb_refl (rank_of a)

tags_self : (a : List Tag) → same_tags a a ≡ true
tags_self [] = refl
tags_self (a ∷ more) = and_from _ _ (and_from _ _ (bytes_self a.0) (bytes_self a.1)) (tags_self more)

id_self : (a : VersionId) → same_id a a ≡ true
id_self Null = refl
id_self (Number a) = eqb_refl a

flag_self : (a : Bool) → same_flag a a ≡ true
flag_self true = refl
flag_self false = refl

pub same_is : (a b : Command) → same_command a b ≡ true → a ≡ b
unfolding same_command
same_is (command.CreateBucket a) (command.CreateBucket b) e = ap command.CreateBucket (bytes_is a b e)
same_is (command.DropRules a) (command.DropRules b) e = ap command.DropRules (bytes_is a b e)
same_is (command.SetVersioning a on) (command.SetVersioning b up) e =
    let p = and_parts _ _ e in λ i. command.SetVersioning (bytes_is a b p.0 i) (flag_is on up p.1 i)
same_is (command.Put a key size class tags) (command.Put b other bytes cold labels) e =
    let p = and_parts _ _ e in let q = and_parts _ _ p.0 in let r = and_parts _ _ q.0 in let s = and_parts _ _ r.0 in
    λ i. command.Put (bytes_is a b s.0 i) (bytes_is key other s.1 i) (eqb-true size bytes r.1 i) (class_is class cold q.1 i) (tags_are tags labels p.1 i)
same_is (command.Delete a key) (command.Delete b other) e =
    let p = and_parts _ _ e in λ i. command.Delete (bytes_is a b p.0 i) (bytes_is key other p.1 i)
same_is (command.DeleteVersion a key id) (command.DeleteVersion b other version) e =
    let p = and_parts _ _ e in let q = and_parts _ _ p.0 in
    λ i. command.DeleteVersion (bytes_is a b q.0 i) (bytes_is key other q.1 i) (id_is id version p.1 i)
same_is (command.SetTags a key id tags) (command.SetTags b other version labels) e =
    let p = and_parts _ _ e in let q = and_parts _ _ p.0 in let r = and_parts _ _ q.0 in
    λ i. command.SetTags (bytes_is a b r.0 i) (bytes_is key other r.1 i) (id_is id version q.1 i) (tags_are tags labels p.1 i)
same_is (command.StartUpload a key class tags) (command.StartUpload b other cold labels) e =
    let p = and_parts _ _ e in let q = and_parts _ _ p.0 in let r = and_parts _ _ q.0 in
    λ i. command.StartUpload (bytes_is a b r.0 i) (bytes_is key other r.1 i) (class_is class cold q.1 i) (tags_are tags labels p.1 i)
same_is (command.PutPart a upload part size) (command.PutPart b number place bytes) e =
    let p = and_parts _ _ e in let q = and_parts _ _ p.0 in let r = and_parts _ _ q.0 in
    λ i. command.PutPart (bytes_is a b r.0 i) (eqb-true upload number r.1 i) (eqb-true part place q.1 i) (eqb-true size bytes p.1 i)
same_is (command.Complete a upload) (command.Complete b number) e =
    let p = and_parts _ _ e in λ i. command.Complete (bytes_is a b p.0 i) (eqb-true upload number p.1 i)
same_is (command.Abort a upload) (command.Abort b number) e =
    let p = and_parts _ _ e in λ i. command.Abort (bytes_is a b p.0 i) (eqb-true upload number p.1 i)
same_is (command.Close a) (command.Close b) e = ap command.Close (eqb-true a b e)
same_is a b e = absurd cc

pub same_self : (c : Command) → takes_token c ≡ true → same_command c c ≡ true
unfolding same_command
same_self (command.CreateBucket a) takes = bytes_self a
same_self (command.SetVersioning a on) takes = and_from _ _ (bytes_self a) (flag_self on)
same_self (command.DropRules a) takes = bytes_self a
same_self (command.Put a key size class tags) takes =
    and_from _ _ (and_from _ _ (and_from _ _ (and_from _ _ (bytes_self a) (bytes_self key)) (eqb_refl size)) (class_self class)) (tags_self tags)
same_self (command.Delete a key) takes = and_from _ _ (bytes_self a) (bytes_self key)
same_self (command.DeleteVersion a key id) takes = and_from _ _ (and_from _ _ (bytes_self a) (bytes_self key)) (id_self id)
same_self (command.SetTags a key id tags) takes = and_from _ _ (and_from _ _ (and_from _ _ (bytes_self a) (bytes_self key)) (id_self id)) (tags_self tags)
same_self (command.StartUpload a key class tags) takes = and_from _ _ (and_from _ _ (and_from _ _ (bytes_self a) (bytes_self key)) (class_self class)) (tags_self tags)
same_self (command.PutPart a upload part size) takes = and_from _ _ (and_from _ _ (and_from _ _ (bytes_self a) (eqb_refl upload)) (eqb_refl part)) (eqb_refl size)
same_self (command.Complete a upload) takes = and_from _ _ (bytes_self a) (eqb_refl upload)
same_self (command.Abort a upload) takes = and_from _ _ (bytes_self a) (eqb_refl upload)
same_self (command.Close month) takes = eqb_refl month
same_self c takes = absurd cc
