use Rattle.std.proofs.Common.{sym, subst}
use Rattle.http_asks.specs.Faults.{refused_of}
use Rattle.http_asks.specs.declared.bad.Bad.{Bad}
use Rattle.http_text.specs.Room.{Puts}
use Rattle.http_front.specs.Texts.{told_body}
use Rattle.http_front.proofs.refusing.put_body.Goals as goal

pub returns-in-NoSuchVersion : goal.returns-in-NoSuchVersion
returns-in-NoSuchVersion c =
    let put = c.put_error-in-NoSuchVersion in
    subst (λ (bad : Bad). Puts c.args.room.now c.args.at put.new.room put.result (told_body (refused_of bad))) (sym c.in-NoSuchVersion.is) put.ensures.puts

pub returns-in-BadToken : goal.returns-in-BadToken
returns-in-BadToken c =
    let put = c.put_error-in-BadToken in
    subst (λ (bad : Bad). Puts c.args.room.now c.args.at put.new.room put.result (told_body (refused_of bad))) (sym c.in-BadToken.is) put.ensures.puts

pub returns-in-TokenNotServed : goal.returns-in-TokenNotServed
returns-in-TokenNotServed c =
    let put = c.put_error-in-TokenNotServed in
    subst (λ (bad : Bad). Puts c.args.room.now c.args.at put.new.room put.result (told_body (refused_of bad))) (sym c.in-TokenNotServed.is) put.ensures.puts

pub returns-in-NoSuchUpload : goal.returns-in-NoSuchUpload
returns-in-NoSuchUpload c =
    let put = c.put_error-in-NoSuchUpload in
    subst (λ (bad : Bad). Puts c.args.room.now c.args.at put.new.room put.result (told_body (refused_of bad))) (sym c.in-NoSuchUpload.is) put.ensures.puts
