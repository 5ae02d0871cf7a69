-- The data that elements of a document are.
use Rattle.std.specs.Prelude.{ℕ}
use Rattle.serde_json.specs.Data.{Data, Items, Members}
use Rattle.json_fields.specs.Nodes.{items_from, members_from, values_of, value_of}
use Rattle.json_fields.specs.declared.document.Document.{Document}
use Rattle.json_fields.specs.declared.element.Element.{Element}
use Rattle.json_fields.specs.declared.element.Elements.{Elements}
use Rattle.json_fields.specs.declared.element.ObjectFields.{ObjectFields}

-- the value of an element
abbrev pub data_of : Element → Data
data_of element = value_of element.nodes.now

-- the elements that are left, before these items
abbrev pub elements_left : Elements → Items → Items
elements_left elements more = items_from elements.left (values_of elements.nodes.now) more

-- how many elements are left, as their array has it
abbrev pub elements_count : Elements → ℕ
elements_count elements = elements.left

-- the fields that are left, as the members of an object
abbrev pub fields_left : ObjectFields → Members
fields_left fields = members_from fields.left (values_of fields.nodes.now)

-- how many names and values are left, as their object has it
abbrev pub fields_count : ObjectFields → ℕ
fields_count fields = fields.left

-- the value of a document
abbrev pub document_data : Document → Data
document_data document = value_of document.nodes.items
