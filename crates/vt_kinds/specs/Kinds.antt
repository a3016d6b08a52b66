-- The kinds of objects and their type numbers (ISO 11783-6; docs/PROFILE.md, "Kinds").
use Rattle.std.specs.Prelude.{ℕ, List, [], ◌∷◌, ◌==◌, if◌then◌else◌, Option, Some, None, codes}
use Rattle.vt_kinds.specs.declared.kind.Kind.{Kind}
use Rattle.vt_kinds.specs.declared.kind.Kind.TheVariants.{WorkingSet, DataMask, AlarmMask, Container, SoftKeyMask, Key, Button, InputBoolean, InputString, InputNumber, InputList, OutputString, OutputNumber, Line, Rectangle, Ellipse, Polygon, Meter, LinearBar, ArchedBar, Picture, NumberVariable, StringVariable, Font, LineAttributes, FillAttributes, InputAttributes, ObjectPointer, Macro}

abbrev pub kind_number : Kind → ℕ
kind_number WorkingSet = 0
kind_number DataMask = 1
kind_number AlarmMask = 2
kind_number Container = 3
kind_number SoftKeyMask = 4
kind_number Key = 5
kind_number Button = 6
kind_number InputBoolean = 7
kind_number InputString = 8
kind_number InputNumber = 9
kind_number InputList = 10
kind_number OutputString = 11
kind_number OutputNumber = 12
kind_number Line = 13
kind_number Rectangle = 14
kind_number Ellipse = 15
kind_number Polygon = 16
kind_number Meter = 17
kind_number LinearBar = 18
kind_number ArchedBar = 19
kind_number Picture = 20
kind_number NumberVariable = 21
kind_number StringVariable = 22
kind_number Font = 23
kind_number LineAttributes = 24
kind_number FillAttributes = 25
kind_number InputAttributes = 26
kind_number ObjectPointer = 27
kind_number Macro = 28

-- the printed name of a kind, from ISO 11783-6
abbrev pub kind_name : Kind → List ℕ
kind_name WorkingSet = codes "Working Set"
kind_name DataMask = codes "Data Mask"
kind_name AlarmMask = codes "Alarm Mask"
kind_name Container = codes "Container"
kind_name SoftKeyMask = codes "Soft Key Mask"
kind_name Key = codes "Key"
kind_name Button = codes "Button"
kind_name InputBoolean = codes "Input Boolean"
kind_name InputString = codes "Input String"
kind_name InputNumber = codes "Input Number"
kind_name InputList = codes "Input List"
kind_name OutputString = codes "Output String"
kind_name OutputNumber = codes "Output Number"
kind_name Line = codes "Output Line"
kind_name Rectangle = codes "Output Rectangle"
kind_name Ellipse = codes "Output Ellipse"
kind_name Polygon = codes "Output Polygon"
kind_name Meter = codes "Output Meter"
kind_name LinearBar = codes "Output Linear Bar Graph"
kind_name ArchedBar = codes "Output Arched Bar Graph"
kind_name Picture = codes "Picture Graphic"
kind_name NumberVariable = codes "Number Variable"
kind_name StringVariable = codes "String Variable"
kind_name Font = codes "Font Attributes"
kind_name LineAttributes = codes "Line Attributes"
kind_name FillAttributes = codes "Fill Attributes"
kind_name InputAttributes = codes "Input Attributes"
kind_name ObjectPointer = codes "Object Pointer"
kind_name Macro = codes "Macro"

abbrev pub every_kind : List Kind
every_kind =
    WorkingSet ∷ DataMask ∷ AlarmMask ∷ Container ∷ SoftKeyMask ∷ Key ∷ Button ∷ InputBoolean ∷ InputString
    ∷ InputNumber ∷ InputList ∷ OutputString ∷ OutputNumber ∷ Line ∷ Rectangle ∷ Ellipse ∷ Polygon ∷ Meter ∷ LinearBar
    ∷ ArchedBar ∷ Picture ∷ NumberVariable ∷ StringVariable ∷ Font ∷ LineAttributes ∷ FillAttributes ∷ InputAttributes
    ∷ ObjectPointer ∷ Macro ∷ []

abbrev pub kind_among : List Kind → ℕ → Option Kind
kind_among [] n = None
kind_among (k ∷ ks) n = if n == kind_number k then Some k else kind_among ks n

-- the kind of a type number
abbrev pub kind_of_type : ℕ → Option Kind
kind_of_type n = kind_among every_kind n
